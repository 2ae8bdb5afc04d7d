use Rattle.std.proofs.Common.{refl}
use Rattle.sqlite.specs.Held.{state}
use Rattle.shop_statements.specs.Rows.{part_row}
use Rattle.shop_statements.specs.Changes.{with_part}
use Rattle.shop_statements.proofs.Texts.{put_part_text, put_part_is, put_part_terms}
use Rattle.shop_statements.proofs.Writing.{makes}
use Rattle.shop_statements.proofs.Putting.{puts_part}
use Rattle.shop_statements.specs.Layout.{parts_table}
use Rattle.shop_statements.proofs.Beside.{puts_beside}
use Rattle.shop_statements.proofs.parts.put_part.Goals as goal

pub returns-clause-put : goal.returns-clause-put
returns-clause-put g c b fresh =
    let old = state g.S.Store c.args.tx.now.conn.now in
    let new = state g.S.Store c.run.new.tx.conn.now in
    makes put_part_text (part_row (c.args.part.now.name, c.args.part.now)) old new b (with_part c.args.part.now b) c.run.result (rw (c.params-to_sql.ensures, c.params-to_sql-2.ensures, c.params-to_sql-3.ensures, c.params-to_sql-4.ensures, c.params-to_sql-5.ensures, c.params-to_sql-6.ensures, c.params-to_sql-7.ensures, c.params-to_sql-8.ensures, c.params-to_sql-9.ensures, c.params-to_sql-10.ensures, c.params-to_sql-11.ensures, c.params-to_sql-12.ensures, c.act.ensures.value, c.node.ensures, c.as_str.ensures.value, c.as_str-2.ensures.value, c.act-2.ensures.value, c.node-2.ensures, c.w.ensures.value, c.h.ensures.value, c.number_of_state.ensures, c.of.ensures) at c.run.ensures.has_run)
    (λ count has ran. puts_part old new count b has c.args.part.now c.in_ranges.ensures fresh ran)

pub returns-clause-others : goal.returns-clause-others
returns-clause-others g c =
    let old = state g.S.Store c.args.tx.now.conn.now in
    puts_beside put_part_text _ old (state g.S.Store c.run.new.tx.conn.now) c.run.result 2 parts_table (λ h. h.parts) (λ h. refl) put_part_terms 13 (put_part_is old.now.schema) c.run.ensures.has_run
