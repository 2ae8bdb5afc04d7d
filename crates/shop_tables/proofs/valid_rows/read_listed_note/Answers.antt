use Rattle.std.proofs.Common.{◌≡◌}
use Rattle.sqlite_value.specs.declared.value.Value.TheVariants.{Text}
use Rattle.sqlite_value.specs.Order.{column}
use Rattle.shop_tables.specs.Listing.{code_row}
use Rattle.shop_tables.specs.ListedRows.{listed_note}
use Rattle.shop_tables.proofs.valid_rows.read_listed_note.Goals as goal

pub returns : goal.returns
returns c note is =
    let read : column (listed_note note) 2 ≡ Text c.in_ok-order.order = rw is at c.in_ok-order.ensures in
    let own : note.order ≡ c.in_ok-order.order = cc in
    c.read_note.ensures.row note (code_row note.order) own is
