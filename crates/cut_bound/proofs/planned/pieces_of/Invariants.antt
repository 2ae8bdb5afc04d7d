use Rattle.std.proofs.Common.{◌≡◌, ◌*◌, ◌^◌, ◌≤◌, take}
use Rattle.cut_tree.specs.Tree.{count_of}
use Rattle.cut_bound.proofs.PlannedUnits.{planned_sum}
use Rattle.cut_bound.proofs.planned.pieces_of.Given as goal

abbrev pub invariant-loop-unit : goal.invariant-loop-unit
invariant-loop-unit l = record { sum : l.count ≡ planned_sum (λ u. count_of u.tree l.demand) (take l.unit-index l.units); few : l.count ≤ l.unit-index * 2 ^ 64 }
