use Rattle.std.proofs.Common.{sym, subst, ◌∙◌}
use Rattle.shop_records.specs.Lists.{orders_after}
use Rattle.shop_answers.specs.Listing.{AreOrderRows, first_reported}
use Rattle.shop_desk.proofs.listing.orders.Goals as goal

pub returns-in-Ok-clause-answer : goal.returns-in-Ok-clause-answer
returns-in-Ok-clause-answer g c =
    λ clean_disk m held n s.
    let found = c.in-Ok.ensures.orders clean_disk m held in
    c.answer_orders.ensures.answer m (orders_after m c.args.after) (c.as_slice.ensures ∙ found.0)
    (subst (λ codes. AreOrderRows m (first_reported codes) c.in-Ok.rows) (sym c.as_slice.ensures) found.1)
