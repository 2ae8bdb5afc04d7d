use Rattle.std.proofs.Common.{take, ◌∙◌}
use Rattle.shop_tables.specs.RowsFrom.{entries_from}
use Rattle.shop_tables.proofs.EntryRows.{some_from}
use Rattle.shop_tables.proofs.entries.invalid_row_from.Goals as goal

pub returns-clause-none : goal.returns-clause-none
returns-clause-none g c clean b was =
    c.invalid_row.ensures (take 1000 (entries_from b.content c.args.from)) (some_from b.content c.args.from 1000 (c.in_ok-rows.ensures.noted clean b was)) (c.deref.ensures.value ∙ c.in_ok-rows.ensures.rows clean b was)
