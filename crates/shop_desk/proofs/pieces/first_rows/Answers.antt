use Rattle.std.proofs.Common.{◌≡◌, ap, ◌∙◌}
use Rattle.std.specs.Prelude.{filter_map}
use Rattle.shop_records.specs.Lists.{piece_row}
use Rattle.shop_answers.specs.Listing.{first_reported}
use Rattle.shop_desk.proofs.pieces.first_rows.Goals as goal

pub returns-clause-pieces : goal.returns-clause-pieces
returns-clause-pieces g c =
    λ clean_disk m held.
    let before = c.in_ok-rows.ensures.keeps.clean_disk clean_disk in
    let reported : c.first_reported.result.now ≡ first_reported c.in_ok-parts.parts = c.first_reported.ensures ∙ ap first_reported c.as_slice.ensures in (
      c.in_ok-parts.ensures.rows before m held,
      c.in_ok-rows.ensures.rows clean_disk m (c.in_ok-parts.ensures.keeps.stays before m held) ∙ ap (filter_map (piece_row m)) reported,
    )
