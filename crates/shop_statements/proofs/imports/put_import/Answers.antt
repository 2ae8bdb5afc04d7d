use Rattle.std.proofs.Common.{refl}
use Rattle.sqlite.specs.Held.{state}
use Rattle.shop_statements.specs.Rows.{import_row}
use Rattle.shop_statements.specs.Changes.{with_import}
use Rattle.shop_statements.proofs.Texts.{put_import_text, put_import_is, put_import_terms}
use Rattle.shop_statements.proofs.Writing.{makes}
use Rattle.shop_statements.proofs.Putting.{puts_import}
use Rattle.shop_statements.specs.Layout.{imports_table}
use Rattle.shop_statements.proofs.Beside.{puts_beside}
use Rattle.shop_statements.proofs.imports.put_import.Goals as goal

pub returns-clause-put : goal.returns-clause-put
returns-clause-put g c b fresh =
    let old = state g.S.Store c.args.tx.now.conn.now in
    let new = state g.S.Store c.run.new.tx.conn.now in
    makes put_import_text (import_row (c.args.import.now.order, c.args.import.now)) old new b (with_import c.args.import.now b) c.run.result (rw (c.params-to_sql.ensures, c.params-to_sql-2.ensures, c.params-to_sql-3.ensures, c.params-to_sql-4.ensures, c.params-to_sql-5.ensures, c.as_str.ensures.value, c.number_of_form.ensures, c.material_of_form.ensures, c.as_str-2.ensures.value, c.as_str-3.ensures.value) at c.run.ensures.has_run)
    (λ count has ran. puts_import old new count b has c.args.import.now fresh ran)

pub returns-clause-others : goal.returns-clause-others
returns-clause-others g c =
    let old = state g.S.Store c.args.tx.now.conn.now in
    puts_beside put_import_text _ old (state g.S.Store c.run.new.tx.conn.now) c.run.result 7 imports_table (λ h. h.imports) (λ h. refl) put_import_terms 6 (put_import_is old.now.schema) c.run.ensures.has_run
