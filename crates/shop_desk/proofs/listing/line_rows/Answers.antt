use Rattle.std.proofs.Common.{ap, ◌∙◌}
use Rattle.std.specs.Prelude.{map}
use Rattle.shop_records.specs.Lists.{demand_row}
use Rattle.shop_desk.proofs.listing.line_rows.Goals as goal

pub returns-clause-rows : goal.returns-clause-rows
returns-clause-rows g c =
    λ clean_disk m held.
    let before = c.in_ok-rows.ensures.keeps.clean_disk clean_disk in (
      c.in_ok-lines.lines,
      c.in_ok-lines.ensures.rows before m held,
      c.in_ok-rows.ensures.rows clean_disk m (c.in_ok-lines.ensures.keeps.stays before m held) ∙ ap (map (demand_row m)) c.as_slice.ensures,
    )
