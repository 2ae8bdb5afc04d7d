use Rattle.std.proofs.Common.{take}
use Rattle.std.specs.Prelude.{All}
use Rattle.cut_bound.specs.Planned.{IsPlannedUnit}
use Rattle.cut_bound.proofs.planned.are_planned.Given as goal

abbrev pub invariant-loop-unit : goal.invariant-loop-unit
invariant-loop-unit l = All (IsPlannedUnit l.wants l.kerf l.sizes) (take l.unit-index l.units)
