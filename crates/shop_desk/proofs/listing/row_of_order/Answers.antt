use Rattle.std.proofs.Common.{ap, sym, ◌∙◌}
use Rattle.shop_records.specs.Lists.{order_row}
use Rattle.shop_desk.proofs.listing.row_of_order.Goals as goal

pub returns-clause-row : goal.returns-clause-row
returns-clause-row g c =
    λ clean_disk m held.
    let before = c.lines_of.ensures.keeps.clean_disk clean_disk in
    let said = c.in_ok-note.ensures.row before m held in
    let all = c.in_ok-lines.ensures.rows clean_disk m (c.note.ensures.keeps.stays before m held) in
    record { lines = c.in_ok-lines.lines; all = all; is = c.order_row.ensures m (sym said) (rw c.as_slice.ensures all.rising) ∙ ap (order_row m c.args.order) c.as_slice.ensures }
