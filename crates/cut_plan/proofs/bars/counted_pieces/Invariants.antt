use Rattle.std.proofs.Common.{◌≡◌, ◌++◌, drop}
use Rattle.cut_plan.specs.Proposals.{pieces_of}
use Rattle.cut_plan.proofs.bars.counted_pieces.Given as goal

abbrev pub invariant-loop-i : goal.invariant-loop-i
invariant-loop-i l = l.pieces.items ++ pieces_of (drop l.i l.wants) (drop l.i l.counts) ≡ pieces_of l.wants l.counts
