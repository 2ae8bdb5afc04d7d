use Rattle.std.proofs.Common.{◌≡◌, ap, ◌∙◌}
use Rattle.std.specs.Prelude.{map}
use Rattle.shop_records.specs.Lists.{demand_row}
use Rattle.shop_answers.specs.Listing.{first_reported}
use Rattle.shop_desk.proofs.listing.first_open.Goals as goal

pub returns-clause-demands : goal.returns-clause-demands
returns-clause-demands g c =
    λ clean_disk m held.
    let before = c.in_ok-rows.ensures.keeps.clean_disk clean_disk in
    let reported : c.first_reported.result.now ≡ first_reported c.in_ok-open.open = c.first_reported.ensures ∙ ap first_reported c.as_slice.ensures in (
      c.in_ok-open.ensures.rows before m held,
      c.in_ok-rows.ensures.rows clean_disk m (c.in_ok-open.ensures.keeps.stays before m held) ∙ ap (map (demand_row m)) reported,
    )
