use Rattle.std.proofs.Common.{◌∙◌, inr, refl, arith}
use Rattle.std.proofs.lemmas.Result.{err_from_is_err_and}
use Rattle.sqlite.specs.Held.{state}
use Rattle.sqlite.specs.State.{HasCleanDisk}
use Rattle.shop_tables.proofs.EarlierRows.{stays_earlier}
use Rattle.shop_statements.proofs.Reading.{leaves_then}
use Rattle.shop_tables.proofs.NoUndone.{no_undone_along, ok_so}
use Rattle.shop_tables.proofs.adopting.adopt_first.Goals as goal

pub returns-in_err-how-clause-neither : goal.returns-in_err-how-clause-neither
returns-in_err-how-clause-neither g c is clean b was =
    let p = err_from_is_err_and c.from_residual.result c.from_residual.ensures.1 in
    c.adopt_version.ensures.one refl (c.in_err-how.was ∙ (let reported = p.1 in let same = p.2 in cc)) clean b was

pub returns-clause-leaves : goal.returns-clause-leaves
returns-clause-leaves g c = leaves_then _ _ _ c.in_ok-how.ensures.leaves c.adopt_early.ensures.leaves

pub returns-clause-only : goal.returns-clause-only
returns-clause-only g c = rw c.in_ok-how.ensures.only at c.adopt_early.ensures.only

pub returns-clause-neither : goal.returns-clause-neither
returns-clause-neither g c is clean b was =
    let mid = state g.S.Store c.adopt_version.new.conn in
    c.adopt_early.ensures.one is clean b (stays_earlier _ mid b c.in_ok-how.ensures.leaves was)

pub returns-clause-named : goal.returns-clause-named
returns-clause-named g c it clean = ok_so c.adopt_early.result (c.in_ok-how.ensures.named (inr (inr it)) (let l = c.adopt_early.ensures.leaves.survives.clean in omega (arith, l, clean)))

pub returns-clause-no_undone : goal.returns-clause-no_undone
returns-clause-no_undone g c it clean sees =
    let old = state g.S.Store c.args.conn.now in
    let mid = state g.S.Store c.adopt_version.new.conn in
    let before : HasCleanDisk mid = let l = c.adopt_early.ensures.leaves.survives.clean in omega (arith, l, clean) in
    no_undone_along c.adopt_early.result old mid c.in_ok-how.ensures.leaves before sees (inr it) (c.adopt_early.ensures.was_open clean) (λ has settled. c.adopt_early.ensures.none has clean settled)
