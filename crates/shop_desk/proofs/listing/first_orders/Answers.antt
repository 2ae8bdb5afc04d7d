use Rattle.std.proofs.Common.{◌≡◌, ap, subst, ◌∙◌}
use Rattle.shop_answers.specs.Listing.{AreOrderRows, first_reported}
use Rattle.shop_desk.proofs.listing.first_orders.Goals as goal

pub returns-clause-orders : goal.returns-clause-orders
returns-clause-orders g c =
    λ clean_disk m held.
    let before = c.in_ok-rows.ensures.keeps.clean_disk clean_disk in
    let reported : c.first_reported.result.now ≡ first_reported c.in_ok-codes.codes = c.first_reported.ensures ∙ ap first_reported c.as_slice.ensures in (
      c.in_ok-codes.ensures.rows before m held,
      subst (λ codes. AreOrderRows m codes c.in_ok-rows.rows) reported (c.in_ok-rows.ensures.rows clean_disk m (c.in_ok-codes.ensures.keeps.stays before m held)),
    )
