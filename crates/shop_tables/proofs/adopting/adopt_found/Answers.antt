use Rattle.std.proofs.Common.{◌≡◌, ◌∙◌, [], inl, refl, sym, subst, arith, true≢false}
use Rattle.std.proofs.lemmas.Result.{err_from_is_err_and}
use Rattle.sqlite.specs.Held.{state}
use Rattle.sqlite.specs.State.{HasCleanDisk}
use Rattle.shop_statements.specs.Layout.{HasShopTables}
use Rattle.shop_statements.proofs.Reading.{leaves_then}
use Rattle.shop_tables.proofs.adopting.adopt_found.Goals as goal

pub returns-in_err-how-clause-neither : goal.returns-in_err-how-clause-neither
returns-in_err-how-clause-neither g c is clean b was =
    let p = err_from_is_err_and c.from_residual.result c.from_residual.ensures.1 in
    c.adopt_version.ensures.three refl (c.in_err-how.was ∙ (let reported = p.1 in let same = p.2 in cc)) clean b was

pub returns-in_err-has_no_old_totals-clause-leaves : goal.returns-in_err-has_no_old_totals-clause-leaves
returns-in_err-has_no_old_totals-clause-leaves g c = leaves_then _ _ _ c.in_ok-how.ensures.leaves c.has_no_old_totals.ensures.leaves

pub returns-then-branch-clause-leaves : goal.returns-then-branch-clause-leaves
returns-then-branch-clause-leaves g c = leaves_then _ _ _ c.in_ok-how.ensures.leaves c.has_no_old_totals.ensures.leaves

pub returns-then-branch-clause-named : goal.returns-then-branch-clause-named
returns-then-branch-clause-named g c it clean = c.in_ok-how.ensures.named (inl it) (let l = c.has_no_old_totals.ensures.leaves.survives.clean in omega (arith, l, clean))

pub returns-then-branch-clause-no_old_totals : goal.returns-then-branch-clause-no_old_totals
returns-then-branch-clause-no_old_totals g c it clean sees =
    let old = state g.S.Store c.args.conn.now in
    let mid = state g.S.Store c.adopt_version.new.conn in
    let before : HasCleanDisk mid = let l = c.has_no_old_totals.ensures.leaves.survives.clean in omega (arith, l, clean) in
    let as_was = c.in_ok-how.ensures.leaves.as_was before (c.in_ok-has_no_old_totals.ensures.was_open clean) in
    let now = as_was.now (sees as_was.was_open) in
    subst (λ db. db.trees 15 ≡ []) now ((c.in_ok-has_no_old_totals.ensures.stands clean (subst (λ db. HasShopTables db.schema) (sym now) it)).0 c.if-branch.true)

pub returns-else-branch-clause-leaves : goal.returns-else-branch-clause-leaves
returns-else-branch-clause-leaves g c = leaves_then _ _ _ c.in_ok-how.ensures.leaves c.has_no_old_totals.ensures.leaves

pub returns-else-branch-clause-neither : goal.returns-else-branch-clause-neither
returns-else-branch-clause-neither g c is clean b was =
    let mid = state g.S.Store c.adopt_version.new.conn in
    let before : HasCleanDisk mid = let l = c.has_no_old_totals.ensures.leaves.survives.clean in omega (arith, l, clean) in
    let held = (c.in_ok-how.ensures.leaves.stays b was before (c.in_ok-has_no_old_totals.ensures.was_open clean)).shows in
    absurd (true≢false (sym ((c.in_ok-has_no_old_totals.ensures.stands clean held.schema).1 held.stands.totals) ∙ c.if-branch.false))
