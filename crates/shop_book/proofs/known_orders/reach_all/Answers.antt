use Rattle.std.proofs.Common.{take, sym, ap, ◌∙◌}
use Rattle.std.specs.Prelude.{◌&&◌, get_or}
use Rattle.std.proofs.lemmas.List.Folds.{list_all_more}
use Rattle.shop_rows.proofs.Summed.{both}
use Rattle.shop_book.specs.Orders.{is_placed}
use Rattle.shop_book.proofs.KnownRows.{reach_on, still_reached}
use Rattle.shop_book.proofs.known_orders.reach_all.Goals as goal

pub loop-row-preserved : goal.loop-row-preserved
loop-row-preserved c =
    let before = c.loop-row.orders.items in
    let after = c.reach_to-are_all.new.orders.items in
    let i = c.loop-row.row-index in
    let rows = c.args.rows.now in
    let row = c.row-item.result in
    record {
      rising = c.reach_to-are_all.ensures.rising;
      spare = c.reach_to-are_all.ensures.spare;
      same = c.reach_to-are_all.ensures.same ∙ c.loop-row.invariant.same;
      reach = reach_on c.args.orders.now.items before after c.loop-row.invariant.reach c.reach_to-are_all.ensures.reach;
      placed = λ yes.
          let t = both c.loop-row.are_all c.reach_to-are_all.result yes in
          list_all_more (is_placed after) rows i row c.loop-row-test.true
          ∙ ap (λ b. b && is_placed after (get_or rows i row)) (still_reached before after c.reach_to-are_all.ensures.reach (take i rows) (c.loop-row.invariant.placed t.0))
          ∙ ap (is_placed after) (sym c.row-item.is) ∙ c.reach_to-are_all.ensures.placed t.1;
    }
