use Rattle.std.proofs.Common.{[], ◌∷◌, pos, Ok, map, take, ◌≡◌}
use Rattle.sqlite.specs.Held.{state}
use Rattle.sqlite_value.specs.declared.value.Value.TheVariants.{Int}
use Rattle.shop_tables.specs.ListedRows.{listed_entry}
use Rattle.shop_tables.specs.RowsFrom.{entries_from}
use Rattle.shop_tables.proofs.FirstRows.{held_given}
use Rattle.shop_tables.proofs.FromNumber.{lists_entries_from}
use Rattle.shop_tables.proofs.ListTexts.{entries_from_text, entries_from_selects}
use Rattle.shop_statements.specs.declared.faults.TableFault.{TableFault}
use Rattle.shop_statements.proofs.Kept.{shown_open}
use Rattle.shop_statements.proofs.Reading.{leaves_itself}
use Rattle.std.specs.FinMap.{values}
use Rattle.std.specs.List.{AllByRecursion}
use Rattle.shop_statements.specs.Values.{IsEntryValue}
use Rattle.shop_tables.proofs.EntryRows.{all_values}
use Rattle.shop_tables.proofs.chunks.entry_rows_from.Goals as goal

pub returns-in_err-first-clause-leaves : goal.returns-in_err-first-clause-leaves
returns-in_err-first-clause-leaves g c = leaves_itself _

pub returns-in_err-limit-clause-leaves : goal.returns-in_err-limit-clause-leaves
returns-in_err-limit-clause-leaves g c = leaves_itself _

pub returns-in_err-rows-clause-leaves : goal.returns-in_err-rows-clause-leaves
returns-in_err-rows-clause-leaves g c = c.all_rows.ensures.leaves entries_from_selects

pub returns-clause-leaves : goal.returns-clause-leaves
returns-clause-leaves g c = c.all_rows.ensures.leaves entries_from_selects

pub returns-clause-rows : goal.returns-clause-rows
returns-clause-rows g c clean b was =
    let old = state g.S.Store c.args.conn.now in
    let new = state g.S.Store c.all_rows.new.conn in
    held_given {E = TableFault} entries_from_text (Int (pos c.args.from) ∷ Int (pos c.args.most) ∷ []) old new entries_from_selects c.all_rows.ensures.leaves b (λ rows. rows ≡ map listed_entry (take c.args.most (entries_from b.content c.args.from))) (Ok c.in_ok-rows.rows) clean was
    (λ rows has given. lists_entries_from old new b has c.args.from c.args.most rows given) (rw (c.params-to_sql.ensures, c.params-to_sql-2.ensures, c.in_ok-first.ensures, c.in_ok-limit.ensures) at (c.in_ok-rows.ensures.rows clean))

pub returns-clause-noted : goal.returns-clause-noted
returns-clause-noted g c clean b was =
    let old = state g.S.Store c.args.conn.now in
    let new = state g.S.Store c.all_rows.new.conn in
    held_given {E = TableFault} entries_from_text (Int (pos c.args.from) ∷ Int (pos c.args.most) ∷ []) old new entries_from_selects c.all_rows.ensures.leaves b (λ _. AllByRecursion IsEntryValue (values b.content.entries)) (Ok c.in_ok-rows.rows) clean was
    (λ rows has given. all_values b.content has.keyed) (rw (c.params-to_sql.ensures, c.params-to_sql-2.ensures, c.in_ok-first.ensures, c.in_ok-limit.ensures) at (c.in_ok-rows.ensures.rows clean))

pub returns-clause-was_open : goal.returns-clause-was_open
returns-clause-was_open g c clean = shown_open entries_from_text _ _ _ c.in_ok-rows.rows.items (c.in_ok-rows.ensures.rows clean)
