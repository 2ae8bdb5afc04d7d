use Rattle.std.proofs.Common.{arith}
use Rattle.cut_order.proofs.GrownUnits.{all_done, done_next, grown_on}
use Rattle.cut_order.proofs.complete.fill_want.Goals as goal

pub loop-place-preserved : goal.loop-place-preserved
loop-place-preserved c =
    let new = c.in_ok-fill_at.ensures in
    record {
      plan = new.plan;
      grown = grown_on c.args.units.now.items c.loop-place.units.items c.fill_at.new.units.items c.loop-place.invariant.grown new.grown;
      done =
          done_next c.args.instance.now.sizes.items c.loop-place.units.items c.fill_at.new.units.items c.args.want.now c.loop-place.place new.grown new.plan.few c.loop-place.invariant.done new.done;
    }

pub returns-clause-filled : goal.returns-clause-filled
returns-clause-filled c =
    all_done c.args.instance.now.sizes.items c.loop-place.units.items c.args.want.now c.loop-place.invariant.plan.few
    (λ place lt. c.loop-place.invariant.done place (omega (arith, lt, c.len-place-end.ensures)))
