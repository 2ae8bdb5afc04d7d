use Rattle.std.proofs.Common.{refl}
use Rattle.sqlite.specs.Held.{state}
use Rattle.shop_statements.specs.Rows.{kept_row}
use Rattle.shop_statements.specs.Changes.{with_kept}
use Rattle.shop_statements.proofs.Texts.{put_kept_text, put_kept_is, put_kept_terms}
use Rattle.shop_statements.proofs.Writing.{makes}
use Rattle.shop_statements.proofs.Putting.{puts_kept}
use Rattle.shop_statements.specs.Layout.{kept_table}
use Rattle.shop_statements.proofs.Beside.{puts_beside}
use Rattle.shop_statements.proofs.kept_messages.put_kept.Goals as goal

pub returns-clause-put : goal.returns-clause-put
returns-clause-put g c b fresh =
    let old = state g.S.Store c.args.tx.now.conn.now in
    let new = state g.S.Store c.run.new.tx.conn.now in
    makes put_kept_text (kept_row (c.args.message.now.message_id, c.args.message.now.kept)) old new b (with_kept c.args.message.now b) c.run.result (rw (c.params-to_sql.ensures, c.params-to_sql-2.ensures, c.params-to_sql-3.ensures, c.params-to_sql-4.ensures, c.as_str.ensures.value, c.as_str-2.ensures.value) at c.run.ensures.has_run)
    (λ count has ran. puts_kept old new count b has c.args.message.now fresh ran)

pub returns-clause-others : goal.returns-clause-others
returns-clause-others g c =
    let old = state g.S.Store c.args.tx.now.conn.now in
    puts_beside put_kept_text _ old (state g.S.Store c.run.new.tx.conn.now) c.run.result 6 kept_table (λ h. h.kept) (λ h. refl) put_kept_terms 5 (put_kept_is old.now.schema) c.run.ensures.has_run
