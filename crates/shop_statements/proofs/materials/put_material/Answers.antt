use Rattle.std.proofs.Common.{refl}
use Rattle.sqlite.specs.Held.{state}
use Rattle.shop_statements.specs.Rows.{material_row}
use Rattle.shop_statements.specs.Changes.{with_material}
use Rattle.shop_statements.proofs.Texts.{put_material_text, put_material_is, put_material_terms}
use Rattle.shop_statements.proofs.Writing.{makes}
use Rattle.shop_statements.proofs.Putting.{puts_material}
use Rattle.shop_statements.specs.Layout.{materials_table}
use Rattle.shop_statements.proofs.Beside.{puts_beside}
use Rattle.shop_statements.proofs.materials.put_material.Goals as goal

pub returns-clause-put : goal.returns-clause-put
returns-clause-put g c b fresh =
    let old = state g.S.Store c.args.tx.now.conn.now in
    let new = state g.S.Store c.run.new.tx.conn.now in
    makes put_material_text (material_row (c.args.material.now.code, c.args.material.now)) old new b (with_material c.args.material.now b) c.run.result (rw (c.params-to_sql.ensures, c.params-to_sql-2.ensures, c.params-to_sql-3.ensures, c.params-to_sql-4.ensures, c.params-to_sql-5.ensures, c.as_str.ensures.value, c.number_of_kind.ensures, c.kerf.ensures.value, c.min_long.ensures.value, c.min_short.ensures.value) at c.run.ensures.has_run)
    (λ count has ran. puts_material old new count b has c.args.material.now c.as_str.ensures.code fresh ran)

pub returns-clause-others : goal.returns-clause-others
returns-clause-others g c =
    let old = state g.S.Store c.args.tx.now.conn.now in
    puts_beside put_material_text _ old (state g.S.Store c.run.new.tx.conn.now) c.run.result 1 materials_table (λ h. h.materials) (λ h. refl) put_material_terms 6 (put_material_is old.now.schema) c.run.ensures.has_run
