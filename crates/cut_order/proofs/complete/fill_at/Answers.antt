use Rattle.std.proofs.Common.{◌≡◌, ◌≤◌, List, sym, subst, arith}
use Rattle.std.specs.Prelude.{IsTrue, Some, slice_get}
use Rattle.cut_measure.specs.Measures.{Size}
use Rattle.cut_plan.specs.Faults.{is_fitting}
use Rattle.cut_plan.proofs.Faultless as facts
use Rattle.cut_bound.specs.declared.stock.StockSize.{StockSize}
use Rattle.cut_bound.specs.declared.planned.PlannedUnit.{PlannedUnit}
use Rattle.cut_bound.specs.Orders.{is_no_step}
use Rattle.cut_bound.proofs.OrderFaults.{faultless}
use Rattle.cut_order.specs.Places.{IsAddition, IsDoneAt, IsFewOrderPlan}
use Rattle.cut_order.proofs.GrownUnits.{done_pushed, is_single, plan_pushed}
use Rattle.cut_order.proofs.complete.fill_at.Goals as goal

pub single_plan-requires-clause-fits : goal.single_plan-requires-clause-fits
single_plan-requires-clause-fits c =
    let add = c.added_at-times.ensures in
    let sizes = c.deref-2.result.now in
    let same = c.size_at-size.ensures add.stock (subst (λ (zs : List StockSize). slice_get zs c.args.place ≡ Some add.stock) (sym c.deref-2.ensures.value) add.there) in
    subst (λ (s : Size). IsTrue (is_fitting s c.args.want.now)) (sym same) (add.fits (omega arith))

pub returns-clause-plan : goal.returns-clause-plan
returns-clause-plan c =
    let q = c.args.instance.now in
    let x = c.args.want.now in
    let u : PlannedUnit = record { place = c.args.place; times = c.added_at-times.result; plan = c.in_ok-plan.plan } in
    let add : IsAddition q.sizes.items c.args.units.now.items x u.place u.times =
    subst (λ (us : List PlannedUnit). IsAddition q.sizes.items us x u.place u.times) c.deref.ensures.value c.added_at-times.ensures in
    let same = c.size_at-size.ensures add.stock (subst (λ (zs : List StockSize). slice_get zs c.args.place ≡ Some add.stock) (sym c.deref-2.ensures.value) add.there) in
    let some : 1 ≤ u.times = omega arith in
    let made = c.in_ok-plan.ensures.plan in
    let is = is_single q.wants.items q.kerf c.size_at-size.result add.stock x u same some (add.fits some) made.0 made.1 made.2 made.3 c.requires.wanted c.in_ok-plan.ensures.sides.0 c.in_ok-plan.ensures.sides.1 in
    let good = faultless (is_no_step q.kind q.step) q.kind q.kerf q.step q.sizes.items q.wants.items q.faultless in
    subst (IsFewOrderPlan q.wants.items q.kerf q.stages q.sizes.items) (sym c.in_ok-push.ensures.items)
    (plan_pushed q.wants.items q.kerf q.sizes.items c.args.units.now.items x u add is q.stages q.limited (facts.own _ q.kind q.wants.items good.in_range) c.requires.plan)

pub returns-clause-done : goal.returns-clause-done
returns-clause-done c =
    let q = c.args.instance.now in
    let x = c.args.want.now in
    let u : PlannedUnit = record { place = c.args.place; times = c.added_at-times.result; plan = c.in_ok-plan.plan } in
    let add : IsAddition q.sizes.items c.args.units.now.items x u.place u.times =
    subst (λ (us : List PlannedUnit). IsAddition q.sizes.items us x u.place u.times) c.deref.ensures.value c.added_at-times.ensures in
    let same = c.size_at-size.ensures add.stock (subst (λ (zs : List StockSize). slice_get zs c.args.place ≡ Some add.stock) (sym c.deref-2.ensures.value) add.there) in
    let some : 1 ≤ u.times = omega arith in
    let made = c.in_ok-plan.ensures.plan in
    let is = is_single q.wants.items q.kerf c.size_at-size.result add.stock x u same some (add.fits some) made.0 made.1 made.2 made.3 c.requires.wanted c.in_ok-plan.ensures.sides.0 c.in_ok-plan.ensures.sides.1 in
    subst (λ (us : List PlannedUnit). IsDoneAt q.sizes.items us x u.place) (sym c.in_ok-push.ensures.items)
    (done_pushed q.wants.items q.kerf q.sizes.items c.args.units.now.items x u add is)
