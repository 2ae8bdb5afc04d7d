use Rattle.std.proofs.Common.{take}
use Rattle.std.specs.BTreeMap.{get}
use Rattle.std.specs.Ordering.{nat_cmp}
use Rattle.cut_plan.specs.Lengths.{IsMapOf}
use Rattle.cut_plan.proofs.lengths.map_of.Given as goal

abbrev pub invariant-loop-entry : goal.invariant-loop-entry
invariant-loop-entry l = IsMapOf (take l.entry-index l.entries) (get nat_cmp l.map)
