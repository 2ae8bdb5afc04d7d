use Rattle.std.proofs.Common.{pos, ◌∷◌, refl}
use Rattle.sqlite.specs.Held.{state}
use Rattle.sqlite_value.specs.declared.value.Value.TheVariants.{Int}
use Rattle.shop_statements.specs.Rows.{halt_columns}
use Rattle.shop_statements.specs.Changes.{with_halt}
use Rattle.shop_statements.proofs.Texts.{put_halt_text, put_halt_is, put_halt_terms}
use Rattle.shop_statements.proofs.Writing.{makes}
use Rattle.shop_statements.proofs.Noting.{puts_halt}
use Rattle.shop_statements.specs.Layout.{halts_table}
use Rattle.shop_statements.proofs.Beside.{puts_beside}
use Rattle.shop_statements.proofs.halts.put_halt.Goals as goal

pub returns-clause-put : goal.returns-clause-put
returns-clause-put g c b fresh =
    let old = state g.S.Store c.args.tx.now.conn.now in
    let new = state g.S.Store c.run.new.tx.conn.now in
    makes put_halt_text (Int (pos c.args.row.now.job) ∷ halt_columns c.args.row.now) old new b (with_halt c.args.row.now b) c.run.result (rw (c.params-to_sql.ensures, c.params-to_sql-2.ensures, c.in_ok-text.ensures) at c.run.ensures.has_run)
    (λ count has ran. puts_halt old new count b has c.args.row.now c.see_halt.ensures fresh ran)

pub returns-clause-others : goal.returns-clause-others
returns-clause-others g c =
    let old = state g.S.Store c.args.tx.now.conn.now in
    puts_beside put_halt_text _ old (state g.S.Store c.run.new.tx.conn.now) c.run.result 14 halts_table (λ h. h.halts) (λ h. refl) put_halt_terms 3 (put_halt_is old.now.schema) c.run.ensures.has_run
