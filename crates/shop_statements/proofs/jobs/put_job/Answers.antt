use Rattle.std.proofs.Common.{pos, ◌∷◌, refl}
use Rattle.sqlite.specs.Held.{state}
use Rattle.sqlite_value.specs.declared.value.Value.TheVariants.{Int}
use Rattle.shop_statements.specs.Rows.{job_columns}
use Rattle.shop_statements.specs.Changes.{with_job}
use Rattle.shop_statements.proofs.Texts.{put_job_text, put_job_is, put_job_terms}
use Rattle.shop_statements.proofs.Writing.{makes}
use Rattle.shop_statements.proofs.Putting.{puts_job}
use Rattle.shop_statements.specs.Layout.{jobs_table}
use Rattle.shop_statements.proofs.Beside.{puts_beside}
use Rattle.shop_statements.proofs.jobs.put_job.Goals as goal

pub returns-clause-put : goal.returns-clause-put
returns-clause-put g c b fresh own =
    let old = state g.S.Store c.args.tx.now.conn.now in
    let new = state g.S.Store c.run.new.tx.conn.now in
    makes put_job_text (Int (pos c.args.job.now.act) ∷ job_columns c.args.job.now) old new b (with_job c.args.job.now b) c.run.result (rw (c.params-to_sql.ensures, c.params-to_sql-2.ensures, c.params-to_sql-3.ensures, c.params-to_sql-4.ensures, c.params-to_sql-5.ensures, c.act.ensures.value, c.node.ensures, c.in_ok-tree.ensures, c.number_of_job_state.ensures) at c.run.ensures.has_run)
    (λ count has ran. puts_job old new count b has c.args.job.now fresh own ran)

pub returns-clause-others : goal.returns-clause-others
returns-clause-others g c =
    let old = state g.S.Store c.args.tx.now.conn.now in
    puts_beside put_job_text _ old (state g.S.Store c.run.new.tx.conn.now) c.run.result 3 jobs_table (λ h. h.jobs) (λ h. refl) put_job_terms 6 (put_job_is old.now.schema) c.run.ensures.has_run
