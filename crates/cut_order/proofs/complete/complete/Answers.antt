use Rattle.std.proofs.Common.{List, take, take_all, subst, arith}
use Rattle.std.specs.Prelude.{All}
use Rattle.std.proofs.lemmas.List.Elements.{All-more, All-weaker}
use Rattle.cut_wants.specs.declared.wants.Want.{Want}
use Rattle.cut_order.specs.Places.{IsFilledOrFull}
use Rattle.cut_order.proofs.GrownUnits.{filled_on}
use Rattle.cut_order.proofs.complete.complete.Goals as goal

pub loop-want-preserved : goal.loop-want-preserved
loop-want-preserved c =
    let sizes = c.args.instance.now.sizes.items in
    let old = IsFilledOrFull sizes c.loop-want.units.items in
    let P = IsFilledOrFull sizes c.fill_want.new.units.items in
    let new = c.in_ok-fill_want.ensures in
    record {
      plan = new.plan;
      filled =
          All-more P c.as_slice-wants.result.now c.loop-want.want-index c.want-item.result (omega arith)
          (All-weaker old P (λ x is. filled_on sizes c.loop-want.units.items c.fill_want.new.units.items x new.grown new.plan.few is) (take c.loop-want.want-index c.as_slice-wants.result.now) c.loop-want.invariant.filled)
          (subst P c.want-item.is new.filled);
    }

pub returns-clause-filled : goal.returns-clause-filled
returns-clause-filled c =
    let P = IsFilledOrFull c.args.instance.now.sizes.items c.loop-want.units.items in
    subst (λ (xs : List Want). All P xs) c.as_slice-wants.ensures.value
    (subst (λ (xs : List Want). All P xs) (take_all c.loop-want.want-index c.as_slice-wants.result.now (omega arith)) c.loop-want.invariant.filled)
