use Rattle.std.proofs.Common.{pos, [], ◌∷◌, sym, subst, refl}
use Rattle.std.specs.FinMap.{insert}
use Rattle.sqlite.specs.Held.{state}
use Rattle.sqlite_value.specs.declared.value.Value.TheVariants.{Int}
use Rattle.shop_statements.specs.Rows.{job_state_number}
use Rattle.shop_statements.specs.Shown.{Shows}
use Rattle.shop_statements.specs.Changes.{with_job}
use Rattle.shop_statements.proofs.Texts.{set_job_text, set_job_is}
use Rattle.shop_statements.proofs.Writing.{makes}
use Rattle.shop_statements.proofs.Setting.{sets_job}
use Rattle.shop_statements.specs.Layout.{jobs_table}
use Rattle.shop_statements.proofs.Beside.{sets_beside}
use Rattle.shop_statements.proofs.jobs.move_job.Goals as goal

pub returns-clause-put : goal.returns-clause-put
returns-clause-put g c b was there same =
    let old = state g.S.Store c.args.tx.now.conn.now in
    let new = state g.S.Store c.run.new.tx.conn.now in
    makes set_job_text (Int (pos c.args.job.now.act) ∷ Int (pos (job_state_number c.args.job.now.state)) ∷ []) old new b (with_job c.args.job.now b) c.run.result (rw (c.params-to_sql.ensures, c.params-to_sql-2.ensures, c.number_of_job_state.ensures) at c.run.ensures.has_run)
    (λ count has ran. subst (λ p. Shows new (record b { content = record b.content { jobs = insert b.content.jobs c.args.job.now.act p } })) (sym same) (sets_job old new count b has c.args.job.now.act was c.args.job.now.state there (has.keyed.jobs c.args.job.now.act was there) ran))

pub returns-clause-others : goal.returns-clause-others
returns-clause-others g c =
    let old = state g.S.Store c.args.tx.now.conn.now in
    sets_beside set_job_text _ old (state g.S.Store c.run.new.tx.conn.now) c.run.result 3 jobs_table (λ h. h.jobs) (λ h. refl) _ (set_job_is old.now.schema) c.run.ensures.has_run
