use Rattle.std.proofs.Common.{pos, ◌∷◌, refl}
use Rattle.sqlite.specs.Held.{state}
use Rattle.sqlite_value.specs.declared.value.Value.TheVariants.{Int}
use Rattle.shop_statements.specs.Rows.{entry_columns}
use Rattle.shop_statements.specs.Changes.{with_entry}
use Rattle.shop_statements.proofs.Texts.{put_entry_text, put_entry_is, put_entry_terms}
use Rattle.shop_statements.proofs.Writing.{makes}
use Rattle.shop_statements.proofs.Putting.{puts_entry}
use Rattle.shop_statements.specs.Layout.{journal_table}
use Rattle.shop_statements.proofs.Beside.{puts_beside}
use Rattle.shop_statements.proofs.journal.put_entry.Goals as goal

pub returns-clause-put : goal.returns-clause-put
returns-clause-put g c b fresh =
    let old = state g.S.Store c.args.tx.now.conn.now in
    let new = state g.S.Store c.run.new.tx.conn.now in
    makes put_entry_text (Int (pos c.args.entry.now.number) ∷ entry_columns c.args.entry.now) old new b (with_entry c.args.entry.now b) c.run.result (rw (c.params-to_sql.ensures, c.params-to_sql-2.ensures, c.params-to_sql-3.ensures, c.params-to_sql-4.ensures, c.params-to_sql-5.ensures, c.params-to_sql-6.ensures, c.params-to_sql-7.ensures, c.params-to_sql-8.ensures, c.params-to_sql-9.ensures, c.params-to_sql-10.ensures, c.in_ok-stamp.ensures, c.name.ensures, c.text_of_order.ensures, c.act_of_part.ensures, c.node_of_part.ensures) at c.run.ensures.has_run)
    (λ count has ran. puts_entry old new count b has c.args.entry.now c.in_ranges.ensures fresh ran)

pub returns-clause-others : goal.returns-clause-others
returns-clause-others g c =
    let old = state g.S.Store c.args.tx.now.conn.now in
    puts_beside put_entry_text _ old (state g.S.Store c.run.new.tx.conn.now) c.run.result 10 journal_table (λ h. h.journal) (λ h. refl) put_entry_terms 11 (put_entry_is old.now.schema) c.run.ensures.has_run
