use Rattle.std.proofs.Common.{refl}
use Rattle.sqlite.specs.Held.{state}
use Rattle.shop_statements.specs.Rows.{use_row}
use Rattle.shop_statements.specs.Changes.{with_use}
use Rattle.shop_statements.proofs.Texts.{put_use_text, put_use_is, put_use_terms}
use Rattle.shop_statements.proofs.Writing.{makes}
use Rattle.shop_statements.proofs.Putting.{puts_use}
use Rattle.shop_statements.specs.Layout.{uses_table}
use Rattle.shop_statements.proofs.Beside.{puts_beside}
use Rattle.shop_statements.proofs.uses.put_use.Goals as goal

pub returns-clause-put : goal.returns-clause-put
returns-clause-put g c b fresh =
    let old = state g.S.Store c.args.tx.now.conn.now in
    let new = state g.S.Store c.run.new.tx.conn.now in
    makes put_use_text (use_row (c.args.row.now, tt)) old new b (with_use c.args.row.now b) c.run.result (rw (c.params-to_sql.ensures, c.params-to_sql-2.ensures, c.as_str.ensures.value) at c.run.ensures.has_run)
    (λ count has ran. puts_use old new count b has c.args.row.now fresh ran)

pub returns-clause-others : goal.returns-clause-others
returns-clause-others g c =
    let old = state g.S.Store c.args.tx.now.conn.now in
    puts_beside put_use_text _ old (state g.S.Store c.run.new.tx.conn.now) c.run.result 11 uses_table (λ h. h.uses) (λ h. refl) put_use_terms 3 (put_use_is old.now.schema) c.run.ensures.has_run
