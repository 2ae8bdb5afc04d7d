use Rattle.std.proofs.Common.{◌∙◌, ◌++◌, ap, subst, sym}
use Rattle.std.specs.Prelude.{All, filter_map}
use Rattle.shop_planning.specs.Stock.{IsStockSize, bought_size}
use Rattle.shop_planning.proofs.StockFacts.{all_sizes, is_stock}
use Rattle.shop_planning.proofs.stock.sizes_of.Goals as goal

pub returns-clause-stock : goal.returns-clause-stock
returns-clause-stock c =
    let kind = c.args.kind in
    let before = subst (All (IsStockSize kind)) (sym c.in_ok-sizes.ensures) (all_sizes kind c.args.parts.now c.requires.well_formed) in
    is_stock kind c.args.parts.now c.args.buy.now c.add_bought.new.sizes.items c.requires.parts c.requires.buy
    (c.in_ok-add_bought.ensures.items ∙ ap (λ l. l ++ filter_map (bought_size kind) c.args.buy.now) c.in_ok-sizes.ensures) (c.in_ok-add_bought.ensures.well_formed before)
