use Rattle.std.proofs.Common.{◌∙◌, ◌≤◌, length, rules, subst, sym}
use Rattle.std.specs.Prelude.{All}
use Rattle.cut_bound.specs.declared.limits.TheConstants.{MAX_BOUGHT_SIZES}
use Rattle.cut_bound.specs.declared.stock.StockSize.{StockSize}
use Rattle.cut_order.specs.declared.instance.TheConstants.{MAX_COST}
use Rattle.shop_problems.proofs.BoughtSizes.{is_stock}
use Rattle.shop_problems.proofs.orders.planned.Goals as goal

pub plan_order-requires-clause-stock : goal.plan_order-requires-clause-stock
plan_order-requires-clause-stock c =
    let few : length c.args.sizes.now ≤ MAX_BOUGHT_SIZES = search rules in
    let cheap = subst (All (λ (s : StockSize). s.cost ≤ MAX_COST)) (sym c.deref.ensures.value) c.in-Ok.ensures.cheap in
    is_stock c.args.material.now.kind c.args.sizes.now c.deref.result.now (c.deref.ensures.value ∙ c.in-Ok.ensures.stock) few cheap c.requires.flat
