use Rattle.std.proofs.Common.{take}
use Rattle.std.specs.Prelude.{All}
use Rattle.cut_order.specs.Places.{IsFewOrderPlan, IsFilledOrFull}
use Rattle.cut_order.proofs.complete.complete.Given as goal

abbrev pub invariant-loop-want : goal.invariant-loop-want
invariant-loop-want l = record {
  plan : IsFewOrderPlan l.instance.wants.items l.instance.kerf l.instance.stages l.instance.sizes.items l.units.items;
  filled : All (IsFilledOrFull l.instance.sizes.items l.units.items) (take l.want-index l.wants);
}
