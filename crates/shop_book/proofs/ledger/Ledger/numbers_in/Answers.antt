use Rattle.std.proofs.Common.{map, sym, ap, ◌∙◌}
use Rattle.shop_records.specs.declared.records.Demand.{Demand}
use Rattle.std.specs.Ordering.{nat_cmp}
use Rattle.shop_rows.specs.Keys.{demand_key}
use Rattle.shop_book.specs.Stories.{numbers_of}
use Rattle.shop_book.proofs.Held.{values-rows}
use Rattle.shop_book.proofs.ledger.Ledger.numbers_in.Goals as goal

pub returns : goal.returns
returns c =
    c.in_ok-numbers.ensures ∙ ap (map (λ (demand : Demand). demand.number)) c.rows_with-lines.ensures.own
    ∙ ap (numbers_of c.args.order) (c.deref-2.ensures.value ∙ sym (values-rows demand_key nat_cmp c.args.self.now.demands.items c.args.self.now.kept_up.demands_rise))
