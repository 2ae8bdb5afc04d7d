use Rattle.std.proofs.Common.{◌+◌, ◌/◌, ap, arith}
use Rattle.cut_sheets.specs.Rounded.{steps_down}
use Rattle.cut_bound.specs.declared.stock.StockSize.{StockSize}
use Rattle.cut_bound.proofs.GreatestCosts.{least_next, least_all}
use Rattle.cut_bound.proofs.unit_bounds.most_across.Goals as goal

pub loop-stock-preserved : goal.loop-stock-preserved
loop-stock-preserved c =
    least_next (λ (z : StockSize). steps_down c.args.kerf c.args.step z.size.w) c.args.sizes.now c.loop-stock.stock-index c.loop-stock.most c.max-most.result c.stock-item.result (omega arith) c.stock-item.is
    (omega (arith, ap (λ n. (n + c.args.kerf) / c.args.step) c.w.ensures.value)) c.loop-stock.invariant

pub returns-clause-most : goal.returns-clause-most
returns-clause-most c =
    least_all (λ (z : StockSize). steps_down c.args.kerf c.args.step z.size.w) c.args.sizes.now c.loop-stock.stock-index c.loop-stock.most (omega arith) c.loop-stock.invariant
