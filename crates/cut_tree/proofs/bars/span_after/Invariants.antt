use Rattle.std.proofs.Common.{◌≡◌, ◌+◌, take}
use Rattle.std.specs.Prelude.{sum_by}
use Rattle.cut_tree.proofs.bars.span_after.Given as goal

abbrev pub invariant-loop-piece : goal.invariant-loop-piece
invariant-loop-piece l = l.span + sum_by (λ p. p.1 + l.kerf) (take l.piece-index l.pieces) ≡ l.initial.span
