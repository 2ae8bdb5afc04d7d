-- Planned units, those that are planned alike together.
use Rattle.std.specs.Prelude.{ℕ, ◌==◌, ◌&&◌, Bool, List, [], map, sum_by, if◌then◌else◌}
use Rattle.cut_tree.specs.SamePatterns.{same_pattern}
use Rattle.cut_bound.specs.declared.planned.PlannedUnit.{PlannedUnit}
use Rattle.shop_planning.specs.Stock.{firsts}

-- they are of one size, and planned by one plan
abbrev pub are_alike : PlannedUnit → PlannedUnit → Bool
are_alike u v = u.place == v.place && same_pattern u.plan v.plan

-- how many of the units are planned like this one
abbrev pub times_of : List PlannedUnit → PlannedUnit → ℕ
times_of units u = sum_by (λ v. if are_alike u v then v.times else 0) units

-- all that are planned like this one
abbrev pub share_of : List PlannedUnit → PlannedUnit → PlannedUnit
share_of units u = record u { times = times_of units u }

-- the units, those of one size and one plan together, in the order in which the first of each stands
abbrev pub shares_of : List PlannedUnit → List PlannedUnit
shares_of units = map (share_of units) (firsts are_alike [] units)
