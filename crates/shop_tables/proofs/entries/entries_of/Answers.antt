use Rattle.std.proofs.Common.{get_or, ◌∙◌, arith}
use Rattle.shop_tables.proofs.EntryRows.{all_read, none, one_more, row_is, value}
use Rattle.shop_tables.proofs.entries.entries_of.Goals as goal

pub loop-row-preserved : goal.loop-row-preserved
loop-row-preserved c es all rows =
    let at = c.loop-row.row-index in
    let so_far = c.loop-row.invariant es all rows in
    let added = c.in_ok-add_entry.ensures (get_or es at none) (value c.args.rows.now es all rows at c.loop-row-test.true) (row_is c.args.rows.now es all rows at c.loop-row-test.true _ _ c.row-item.is) in
    added ∙ one_more c.args.rows.now es all rows at c.loop-row-test.true c.loop-row.entries so_far

pub returns : goal.returns
returns c es all rows = all_read c.args.rows.now es all rows c.loop-row.row-index c.loop-row.entries (omega (arith, c.loop-row-test.false)) (c.loop-row.invariant es all rows)
