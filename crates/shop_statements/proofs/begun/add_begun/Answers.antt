use Rattle.std.proofs.Common.{pos, ◌∷◌, refl}
use Rattle.sqlite.specs.Held.{state}
use Rattle.sqlite_value.specs.declared.value.Value.TheVariants.{Int}
use Rattle.shop_statements.specs.Rows.{begun_columns}
use Rattle.shop_statements.specs.Changes.{with_begun}
use Rattle.shop_statements.proofs.Texts.{put_begun_text, put_begun_is, put_begun_terms}
use Rattle.shop_statements.proofs.Writing.{makes}
use Rattle.shop_statements.proofs.Noting.{puts_begun}
use Rattle.shop_statements.specs.Layout.{begun_table}
use Rattle.shop_statements.proofs.Beside.{puts_beside}
use Rattle.shop_statements.proofs.begun.add_begun.Goals as goal

pub returns-clause-put : goal.returns-clause-put
returns-clause-put g c b fresh =
    let old = state g.S.Store c.args.tx.now.conn.now in
    let new = state g.S.Store c.run.new.tx.conn.now in
    makes put_begun_text (Int (pos c.args.begun.now.job) ∷ begun_columns c.args.begun.now) old new b (with_begun c.args.begun.now b) c.run.result (rw (c.params-to_sql.ensures, c.params-to_sql-2.ensures) at c.run.ensures.has_run)
    (λ count has ran. puts_begun old new count b has c.args.begun.now fresh ran)

pub returns-clause-others : goal.returns-clause-others
returns-clause-others g c =
    let old = state g.S.Store c.args.tx.now.conn.now in
    puts_beside put_begun_text _ old (state g.S.Store c.run.new.tx.conn.now) c.run.result 13 begun_table (λ h. h.begun) (λ h. refl) put_begun_terms 3 (put_begun_is old.now.schema) c.run.ensures.has_run
