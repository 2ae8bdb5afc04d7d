use Rattle.std.proofs.Common.{◌≡◌, [], filter, sym, subst, arith}
use Rattle.std.specs.Bool.{Decides}
use Rattle.sqlite.specs.Held.{state}
use Rattle.sqlite.specs.State.{HasCleanDisk}
use Rattle.shop_statements.proofs.Reading.{leaves_then}
use Rattle.shop_tables.specs.Adopting.{HasEarlyTables, is_undone_job, is_undone_part}
use Rattle.shop_tables.proofs.NoUndone.{decides_both}
use Rattle.shop_tables.proofs.undone_rows.has_none_undone.Goals as goal

pub returns-in_err-no_job-clause-leaves : goal.returns-in_err-no_job-clause-leaves
returns-in_err-no_job-clause-leaves g c = leaves_then _ _ _ c.in_ok-no_part.ensures.leaves c.has_no_undone_job.ensures.leaves

pub returns-clause-leaves : goal.returns-clause-leaves
returns-clause-leaves g c = leaves_then _ _ _ c.in_ok-no_part.ensures.leaves c.in_ok-no_job.ensures.leaves

pub returns-clause-was_open : goal.returns-clause-was_open
returns-clause-was_open g c clean =
    let mid = state g.S.Store c.has_no_undone_part.new.conn in
    let before : HasCleanDisk mid = let l = c.in_ok-no_job.ensures.leaves.survives.clean in omega (arith, l, clean) in
    c.in_ok-no_part.ensures.was_open before

pub returns-clause-stands : goal.returns-clause-stands
returns-clause-stands g c clean early sees =
    let old = state g.S.Store c.args.conn.now in
    let mid = state g.S.Store c.has_no_undone_part.new.conn in
    let before : HasCleanDisk mid = let l = c.in_ok-no_job.ensures.leaves.survives.clean in omega (arith, l, clean) in
    let was = c.in_ok-no_part.ensures.leaves.as_was before (c.in_ok-no_job.ensures.was_open clean) in
    let now : mid.now ≡ old.now = was.now (sees was.was_open) in
    rw c.both.ensures
    (decides_both c.in_ok-no_part.no_part c.in_ok-no_job.no_job (filter is_undone_part (old.now.trees 4) ≡ []) (filter is_undone_job (old.now.trees 6) ≡ []) (c.in_ok-no_part.ensures.stands before early)
    (subst (λ db. Decides c.in_ok-no_job.no_job (filter is_undone_job (db.trees 6) ≡ [])) now (c.in_ok-no_job.ensures.stands clean (subst (λ db. HasEarlyTables db.schema) (sym now) early))))
