use Rattle.std.proofs.Common.{◌≡◌, ◌≤◌, ◌++◌, drop}
use Rattle.std.specs.Prelude.{All}
use Rattle.cut_bound.specs.declared.stock.StockSize.{StockSize}
use Rattle.cut_order.specs.declared.instance.TheConstants.{MAX_COST}
use Rattle.shop_problems.specs.Stock.{stock_at}
use Rattle.shop_problems.proofs.stock.stock_of.Given as goal

abbrev pub invariant-loop-size : goal.invariant-loop-size
invariant-loop-size l =
    record {
      stock : l.stock.items ++ stock_at l.single (drop l.size-index l.sizes) ≡ stock_at l.single l.sizes;
      cheap : All (λ (s : StockSize). s.cost ≤ MAX_COST) l.stock.items;
    }
