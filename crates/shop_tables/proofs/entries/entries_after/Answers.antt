use Rattle.std.proofs.Common.{map, take, ap, ◌∙◌}
use Rattle.shop_records.specs.Lists.{entries_behind}
use Rattle.shop_statements.proofs.Reading.{leaves_itself}
use Rattle.shop_tables.specs.ListedRows.{listed_entry}
use Rattle.shop_tables.specs.RowsFrom.{entries_from}
use Rattle.shop_tables.proofs.EntryRows.{behind_is, some_values}
use Rattle.shop_tables.proofs.entries.entries_after.Goals as goal

pub returns-in_err-from-clause-leaves : goal.returns-in_err-from-clause-leaves
returns-in_err-from-clause-leaves g c = leaves_itself _

pub returns-clause-rows : goal.returns-clause-rows
returns-clause-rows g c clean b was =
    c.in_ok-entries.ensures (take c.args.most (entries_behind b.content c.args.after)) (some_values b.content c.args.after c.args.most (c.in_ok-rows.ensures.noted clean b was))
    (c.deref.ensures.value ∙ c.in_ok-rows.ensures.rows clean b was ∙ ap (λ from. map listed_entry (take c.args.most (entries_from b.content from))) c.in_ok-from.ensures ∙ ap (λ es. map listed_entry (take c.args.most es)) (behind_is b.content c.args.after))
