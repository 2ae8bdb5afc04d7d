use Rattle.std.proofs.Common.{◌≡◌, take}
use Rattle.std.specs.Prelude.{slice_get}
use Rattle.std.specs.Option.{option_map_or}
use Rattle.cut_bound.proofs.PlannedUnits.{planned_sum}
use Rattle.cut_bound.proofs.planned.cost_of.Given as goal

abbrev pub invariant-loop-unit : goal.invariant-loop-unit
invariant-loop-unit l = l.cost ≡ planned_sum (λ u. option_map_or (λ s. s.cost) (slice_get l.sizes u.place) 0) (take l.unit-index l.units)
