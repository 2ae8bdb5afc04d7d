use Rattle.cut_order.specs.Places.{AreStaged}
use Rattle.cut_order.proofs.found.planned_units.Given as goal

abbrev pub invariant-loop-unit : goal.invariant-loop-unit
invariant-loop-unit l = AreStaged l.instance.stages l.units.items
