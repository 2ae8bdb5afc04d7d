use Rattle.std.proofs.Common.{◌≡◌, ◌++◌, drop}
use Rattle.std.specs.Prelude.{All, filter_map}
use Rattle.shop_planning.specs.Stock.{IsStockSize, bought_size}
use Rattle.shop_planning.proofs.stock.add_bought.Given as goal

abbrev pub invariant-loop-one : goal.invariant-loop-one
invariant-loop-one l =
    record {
      items : l.sizes.items ++ filter_map (bought_size l.kind) (drop l.one-index l.buy) ≡ l.initial.sizes.items ++ filter_map (bought_size l.kind) l.buy;
      well_formed : All (IsStockSize l.kind) l.initial.sizes.items → All (IsStockSize l.kind) l.sizes.items;
    }
