use Rattle.std.proofs.Common.{refl}
use Rattle.sqlite.specs.Held.{state}
use Rattle.shop_statements.specs.Rows.{order_row}
use Rattle.shop_statements.specs.Changes.{with_order}
use Rattle.shop_statements.proofs.Texts.{put_order_text, put_order_is, put_order_terms}
use Rattle.shop_statements.proofs.Writing.{makes}
use Rattle.shop_statements.proofs.Putting.{puts_order}
use Rattle.shop_statements.specs.Layout.{orders_table}
use Rattle.shop_statements.proofs.Beside.{puts_beside}
use Rattle.shop_statements.proofs.orders.put_order.Goals as goal

pub returns-clause-put : goal.returns-clause-put
returns-clause-put g c b fresh =
    let old = state g.S.Store c.args.tx.now.conn.now in
    let new = state g.S.Store c.run.new.tx.conn.now in
    makes put_order_text (order_row (c.args.code, tt)) old new b (with_order c.args.code b) c.run.result (rw (c.params-to_sql.ensures, c.as_str.ensures.value) at c.run.ensures.has_run)
    (λ count has ran. puts_order old new count b has c.args.code fresh ran)

pub returns-clause-others : goal.returns-clause-others
returns-clause-others g c =
    let old = state g.S.Store c.args.tx.now.conn.now in
    puts_beside put_order_text _ old (state g.S.Store c.run.new.tx.conn.now) c.run.result 4 orders_table (λ h. h.orders) (λ h. refl) put_order_terms 2 (put_order_is old.now.schema) c.run.ensures.has_run
