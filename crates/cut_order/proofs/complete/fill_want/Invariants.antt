use Rattle.cut_order.specs.Places.{IsFewOrderPlan, IsGrown}
use Rattle.cut_order.proofs.GrownUnits.{AreDoneTo}
use Rattle.cut_order.proofs.complete.fill_want.Given as goal

abbrev pub invariant-loop-place : goal.invariant-loop-place
invariant-loop-place l = record {
  plan : IsFewOrderPlan l.instance.wants.items l.instance.kerf l.instance.stages l.instance.sizes.items l.units.items;
  grown : IsGrown l.initial.units.items l.units.items;
  done : AreDoneTo l.instance.sizes.items l.units.items l.want l.place;
}
