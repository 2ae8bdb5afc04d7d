use Rattle.std.proofs.Common.{◌≡◌, ◌<◌, ◌^◌, List, sym, subst, arith}
use Rattle.cut_wants.specs.declared.wants.Want.{Want}
use Rattle.cut_bound.specs.declared.stock.StockSize.{StockSize}
use Rattle.cut_bound.specs.Solutions.{cost_of}
use Rattle.cut_bound.specs.Planned.{IsOrderPlan, solution_of}
use Rattle.cut_order.proofs.Answered.{small_cost}
use Rattle.cut_order.proofs.answer.checked.Goals as goal

pub want_of_memory-requires : goal.want_of_memory-requires
want_of_memory-requires c =
    let q = c.args.instance.now in
    let small : cost_of q.sizes.items (solution_of c.args.units.now) < 2 ^ 128 = omega (arith, small_cost q.sizes.items c.args.units.now q.stocked.cheap c.requires.few) in
    c.in-Err.ensures.passes
    (subst (λ (ws : List Want). IsOrderPlan ws q.kerf c.deref.result.now c.args.units.now) (sym c.deref-2.ensures.value)
    (subst (λ (zs : List StockSize). IsOrderPlan q.wants.items q.kerf zs c.args.units.now) (sym c.deref.ensures.value) c.requires.plan))
    (subst (λ (zs : List StockSize). cost_of zs (solution_of c.args.units.now) < 2 ^ 128) (sym c.deref.ensures.value) small)

pub returns-in-Ok-clause-small : goal.returns-in-Ok-clause-small
returns-in-Ok-clause-small c =
    let q = c.args.instance.now in
    let paid = subst (λ (zs : List StockSize). c.in-Ok.checked.cost ≡ cost_of zs (solution_of c.args.units.now)) c.deref.ensures.value c.in-Ok.ensures.ok.paid in
    omega (arith, paid, small_cost q.sizes.items c.args.units.now q.stocked.cheap c.requires.few)
