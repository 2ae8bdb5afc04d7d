use Rattle.std.proofs.Common.{[], ◌∷◌, pos, Ok, map, take, ◌≡◌}
use Rattle.sqlite.specs.Held.{state}
use Rattle.sqlite_value.specs.declared.value.Value.TheVariants.{Int}
use Rattle.shop_tables.specs.ListedRows.{listed_begun}
use Rattle.shop_tables.specs.RowsFrom.{begun_from}
use Rattle.shop_tables.proofs.FirstRows.{held_given}
use Rattle.shop_tables.proofs.FromNumber.{lists_begun_from}
use Rattle.shop_tables.proofs.ListTexts.{begun_from_text, begun_from_selects}
use Rattle.shop_statements.specs.declared.faults.TableFault.{TableFault}
use Rattle.shop_statements.proofs.Kept.{shown_open}
use Rattle.shop_statements.proofs.Reading.{leaves_itself}
use Rattle.shop_tables.proofs.EarlierRows.{held_given_earlier}
use Rattle.shop_tables.proofs.SecondRows.{held_given_second}
use Rattle.shop_tables.proofs.NoTable.{no_begun_earlier, no_begun_second}
use Rattle.shop_tables.proofs.chunks.begun_rows_from.Goals as goal

pub returns-in_err-first-clause-leaves : goal.returns-in_err-first-clause-leaves
returns-in_err-first-clause-leaves g c = leaves_itself _

pub returns-in_err-limit-clause-leaves : goal.returns-in_err-limit-clause-leaves
returns-in_err-limit-clause-leaves g c = leaves_itself _

pub returns-in_err-rows-clause-leaves : goal.returns-in_err-rows-clause-leaves
returns-in_err-rows-clause-leaves g c = c.all_rows.ensures.leaves begun_from_selects

pub returns-clause-leaves : goal.returns-clause-leaves
returns-clause-leaves g c = c.all_rows.ensures.leaves begun_from_selects

pub returns-clause-rows : goal.returns-clause-rows
returns-clause-rows g c clean b was =
    let old = state g.S.Store c.args.conn.now in
    let new = state g.S.Store c.all_rows.new.conn in
    held_given {E = TableFault} begun_from_text (Int (pos c.args.from) ∷ Int (pos c.args.most) ∷ []) old new begun_from_selects c.all_rows.ensures.leaves b (λ rows. rows ≡ map listed_begun (take c.args.most (begun_from b.content c.args.from))) (Ok c.in_ok-rows.rows) clean was
    (λ rows has given. lists_begun_from old new b has c.args.from c.args.most rows given) (rw (c.params-to_sql.ensures, c.params-to_sql-2.ensures, c.in_ok-first.ensures, c.in_ok-limit.ensures) at (c.in_ok-rows.ensures.rows clean))

pub returns-clause-was_open : goal.returns-clause-was_open
returns-clause-was_open g c clean = shown_open begun_from_text _ _ _ c.in_ok-rows.rows.items (c.in_ok-rows.ensures.rows clean)

pub returns-clause-earlier : goal.returns-clause-earlier
returns-clause-earlier g c clean b was =
    let old = state g.S.Store c.args.conn.now in
    let new = state g.S.Store c.all_rows.new.conn in
    held_given_earlier {E = TableFault} begun_from_text (Int (pos c.args.from) ∷ Int (pos c.args.most) ∷ []) old new begun_from_selects c.all_rows.ensures.leaves b (λ _. ⊥) (Ok c.in_ok-rows.rows) clean was
    (λ rows has given. no_begun_earlier (Int (pos c.args.from) ∷ Int (pos c.args.most) ∷ []) old new rows has.schema given) (rw (c.params-to_sql.ensures, c.params-to_sql-2.ensures, c.in_ok-first.ensures, c.in_ok-limit.ensures) at (c.in_ok-rows.ensures.rows clean))

pub returns-clause-second : goal.returns-clause-second
returns-clause-second g c clean b was =
    let old = state g.S.Store c.args.conn.now in
    let new = state g.S.Store c.all_rows.new.conn in
    held_given_second {E = TableFault} begun_from_text (Int (pos c.args.from) ∷ Int (pos c.args.most) ∷ []) old new begun_from_selects c.all_rows.ensures.leaves b (λ _. ⊥) (Ok c.in_ok-rows.rows) clean was
    (λ rows has given. no_begun_second (Int (pos c.args.from) ∷ Int (pos c.args.most) ∷ []) old new rows has.schema given) (rw (c.params-to_sql.ensures, c.params-to_sql-2.ensures, c.in_ok-first.ensures, c.in_ok-limit.ensures) at (c.in_ok-rows.ensures.rows clean))
