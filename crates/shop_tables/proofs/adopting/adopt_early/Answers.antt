use Rattle.std.proofs.Common.{◌∙◌, inl, inr, sym, arith, true≢false}
use Rattle.sqlite.specs.Held.{state}
use Rattle.sqlite.specs.State.{HasCleanDisk}
use Rattle.shop_tables.proofs.NoUndone.{no_undone}
use Rattle.shop_tables.proofs.adopting.adopt_early.Goals as goal

pub returns-then-branch-clause-none : goal.returns-then-branch-clause-none
returns-then-branch-clause-none g c early clean sees = (c.in_ok-has_none_undone.ensures.stands clean early sees).0 c.if-branch.true

pub returns-else-branch-clause-two : goal.returns-else-branch-clause-two
returns-else-branch-clause-two g c is clean b was =
    let old = state g.S.Store c.args.conn.now in
    let before : HasCleanDisk old = let l = c.has_none_undone.ensures.leaves.survives.clean in omega (arith, l, clean) in
    let held = (was before (c.in_ok-has_none_undone.ensures.was_open clean)).shows in
    absurd (true≢false (sym ((c.in_ok-has_none_undone.ensures.stands clean (inl held.schema) (λ up. (was before up).committed)).1 (no_undone old.now.trees b.content held.stands.later held.stands.parts held.stands.jobs)) ∙ c.if-branch.false))

pub returns-else-branch-clause-one : goal.returns-else-branch-clause-one
returns-else-branch-clause-one g c is clean b was =
    let old = state g.S.Store c.args.conn.now in
    let before : HasCleanDisk old = let l = c.has_none_undone.ensures.leaves.survives.clean in omega (arith, l, clean) in
    let held = (was before (c.in_ok-has_none_undone.ensures.was_open clean)).shows in
    absurd (true≢false (sym ((c.in_ok-has_none_undone.ensures.stands clean (inr held.schema) (λ up. (was before up).committed)).1 (no_undone old.now.trees b.content held.stands.later held.stands.parts held.stands.jobs)) ∙ c.if-branch.false))
