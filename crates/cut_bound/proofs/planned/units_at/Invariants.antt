use Rattle.std.proofs.Common.{◌≡◌, ◌*◌, ◌^◌, ◌≤◌, take}
use Rattle.std.specs.Prelude.{◌==◌, if◌then◌else◌}
use Rattle.cut_bound.proofs.PlannedUnits.{planned_sum}
use Rattle.cut_bound.proofs.planned.units_at.Given as goal

abbrev pub invariant-loop-unit : goal.invariant-loop-unit
invariant-loop-unit l = record { sum : l.count ≡ planned_sum (λ u. if u.place == l.place then 1 else 0) (take l.unit-index l.units); few : l.count ≤ l.unit-index * 2 ^ 32 }
