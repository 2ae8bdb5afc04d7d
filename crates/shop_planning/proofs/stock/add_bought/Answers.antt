use Rattle.std.proofs.Common.{◌≡◌, ◌∙◌, ◌+◌, ◌<◌, ◌++◌, ◌∷◌, [], ap, drop, length, rules, subst, sym}
use Rattle.std.specs.Prelude.{All, filter_map}
use Rattle.std.proofs.lemmas.List.Elements.{All-push}
use Rattle.shop_planning.specs.Stock.{IsStockSize, bought_size}
use Rattle.shop_planning.proofs.StockFacts.{none_next, some_next}
use Rattle.shop_planning.proofs.stock.add_bought.Goals.{in-Some+in_ok-push-in-Some, in-None}
use Rattle.shop_planning.proofs.stock.add_bought.Goals as goal

pub loop-one-preserved : goal.loop-one-preserved
loop-one-preserved c =
    let kind = c.args.kind in
    let buy = c.args.buy.now in
    let i = c.loop-one.one-index in
    let all = c.args.sizes.now.items ++ filter_map (bought_size kind) buy in
    let within : i < length buy = search rules in
    elim c.match-bought_size.branch [
      | in-Some+in_ok-push-in-Some w ↦
          let items : c.match-bought_size.sizes.items ≡ c.loop-one.sizes.items ++ w.in-Some.size ∷ [] = rw w.sizes-is w.in_ok-push-in-Some.ensures.items in
          record {
            items = ap (λ l. l ++ filter_map (bought_size kind) (drop (i + 1) buy)) items
                ∙ some_next (bought_size kind) buy i _ within w.in-Some.size c.loop-one.sizes.items all w.in-Some.ensures.value c.loop-one.invariant.items;
            well_formed = λ before.
                subst (All (IsStockSize kind)) (sym items) (All-push (IsStockSize kind) c.loop-one.sizes.items w.in-Some.size (c.loop-one.invariant.well_formed before) w.in-Some.ensures.well_formed);
          }
      | in-None w ↦
          rw w.sizes-is (record {
            items = none_next (bought_size kind) buy i _ within c.loop-one.sizes.items all w.in-None.ensures.value c.loop-one.invariant.items;
            well_formed = c.loop-one.invariant.well_formed;
          })
    ]
