use Rattle.std.proofs.Common.{take}
use Rattle.std.specs.Prelude.{All}
use Rattle.cut_bound.specs.Planned.{IsFilled, solution_of}
use Rattle.cut_bound.proofs.fill.is_filled.Given as goal

abbrev pub invariant-loop-want : goal.invariant-loop-want
invariant-loop-want l = All (IsFilled l.sizes (solution_of l.units)) (take l.want-index l.wants)
