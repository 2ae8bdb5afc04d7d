use Rattle.std.proofs.Common.{true≢false, get_or, sym, ◌∙◌}
use Rattle.shop_tables.proofs.EntryRows.{none, row_is, value}
use Rattle.shop_tables.proofs.entries.invalid_row.Goals as goal

pub returns-then-not-may_be_entry : goal.returns-then-not-may_be_entry
returns-then-not-may_be_entry c es all rows =
    let at = c.loop-row.row-index in
    let is = c.may_be_entry.ensures (get_or es at none) (value c.args.rows.now es all rows at c.loop-row-test.true) (row_is c.args.rows.now es all rows at c.loop-row-test.true _ _ c.row-item.is) in
    absurd (true≢false (sym is ∙ c.if-not-may_be_entry.true))
