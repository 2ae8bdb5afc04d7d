use Rattle.std.proofs.Common.{◌≤◌, [], ◌∷◌, pos, Ok}
use Rattle.sqlite.specs.Held.{state}
use Rattle.sqlite_value.specs.declared.value.Value.TheVariants.{Int}
use Rattle.shop_statements.specs.declared.faults.TableFault.{TableFault}
use Rattle.shop_statements.proofs.Reading.{leaves_itself}
use Rattle.shop_tables.specs.RowsFrom.{HasNoneBut}
use Rattle.shop_tables.proofs.FirstRows.{held_given}
use Rattle.shop_tables.proofs.Strays.{below_text, below_selects, finds_below}
use Rattle.shop_tables.proofs.entries.rows_below.Goals as goal

pub returns-in_err-bound-clause-leaves : goal.returns-in_err-bound-clause-leaves
returns-in_err-bound-clause-leaves g c = leaves_itself _

pub returns-in_err-rows-clause-leaves : goal.returns-in_err-rows-clause-leaves
returns-in_err-rows-clause-leaves g c = c.all_rows.ensures.leaves below_selects

pub returns-clause-leaves : goal.returns-clause-leaves
returns-clause-leaves g c = c.all_rows.ensures.leaves below_selects

pub returns-clause-rows : goal.returns-clause-rows
returns-clause-rows g c clean b was =
    let old = state g.S.Store c.args.conn.now in
    let new = state g.S.Store c.all_rows.new.conn in
    held_given {E = TableFault} below_text (Int (pos c.args.number) ∷ []) old new below_selects c.all_rows.ensures.leaves b (λ rows. HasNoneBut (λ n. c.args.number ≤ n) b.content rows) (Ok c.in_ok-rows.rows) clean was
    (λ rows has given. finds_below old new b has c.args.number rows given) (rw (c.params-to_sql.ensures, c.in_ok-bound.ensures) at (c.in_ok-rows.ensures.rows clean))
