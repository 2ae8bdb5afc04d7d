use Rattle.std.proofs.Common.{◌≡◌, ◌++◌, replicate}
use Rattle.cut_plan.proofs.bars.push_times.Given as goal

abbrev pub invariant-loop : goal.invariant-loop
invariant-loop l = l.pieces.items ≡ l.initial.pieces.items ++ replicate l.counter l.piece
