use Rattle.std.proofs.Common.{◌≤◌, refl, sym, subst, arith}
use Rattle.std.proofs.lemmas.Result.{IfOk-weaker}
use Rattle.sqlite.specs.Held.{state}
use Rattle.sqlite.specs.State.{HasCleanDisk}
use Rattle.shop_tables.proofs.entries.stray_entry.Goals as goal

pub returns-in-Some-clause-none : goal.returns-in-Some-clause-none
returns-in-Some-clause-none g c clean b was many numbered = absurd (let e = rw c.in-Some.is at (c.in_ok-row.ensures.none clean b was (λ n there. (numbered n there).0)) in cc)

pub returns-in-Some-clause-all : goal.returns-in-Some-clause-all
returns-in-Some-clause-all g c clean b was many none = absurd (cc)

pub returns-in-None-clause-none : goal.returns-in-None-clause-none
returns-in-None-clause-none g c clean b was many numbered = c.stray_above.ensures.none clean b (c.stray_below.ensures.leaves.stays b was) (λ n there. subst (λ count. n ≤ count) (sym many) (numbered n there).1)

pub returns-in-None-clause-all : goal.returns-in-None-clause-all
returns-in-None-clause-all g c clean b was many =
    let before : HasCleanDisk (state g.S.Store c.stray_below.new.conn) = let l = c.stray_above.ensures.leaves.survives.clean in omega (arith, l, clean) in
    IfOk-weaker c.stray_above.result _ _ (λ stray high none n there. ((rw c.in-None.is at (c.in_ok-row.ensures.all before b was)) refl n there, subst (λ count. n ≤ count) many (high none n there)))
    (c.stray_above.ensures.all clean b (c.stray_below.ensures.leaves.stays b was))
