use Rattle.std.proofs.Common.{true, false, nat_lt, refl, sym, ap, ◌∙◌}
use Rattle.std.specs.List.{list_any}
use Rattle.cut_tree.specs.Tree.{count_of}
use Rattle.std.proofs.lemmas.Bool.{lt-ltb, le-ltb}
use Rattle.cut_measure.specs.declared.ranges.TheConstants.{MAX_NUMBERS}
use Rattle.shop_machine.specs.Reserving.{leaves_refusal, is_over}
use Rattle.shop_machine.proofs.ReservingDecision.{plan_refused, has_leaves}
use Rattle.shop_machine.proofs.reserving.plan_refusal.Goals as goal

pub returns-then-is_too_many-clause-refusal : goal.returns-then-is_too_many-clause-refusal
returns-then-is_too_many-clause-refusal c =
    λ at found.
    sym (plan_refused c.args.part.now c.args.plan.now at c.args.act true (nat_lt MAX_NUMBERS c.args.act)
    (has_leaves c.args.plan.now c.args.leaves.now c.requires.leaves c.if-is_empty.ensures)
    (ap (leaves_refusal at c.args.part.now.material) (sym c.requires.leaves) ∙ sym (c.in_default.ensures.refusal at found))
    (ap (list_any (λ leaf. is_over (count_of c.args.plan.now.tree leaf.demand) (at leaf.demand))) (sym c.requires.leaves) ∙ sym (c.is_too_many.ensures.test at found) ∙ c.if-is_too_many.true) refl)

pub returns-then-act-gt-MAX_NUMBERS-clause-refusal : goal.returns-then-act-gt-MAX_NUMBERS-clause-refusal
returns-then-act-gt-MAX_NUMBERS-clause-refusal c =
    λ at found.
    sym (plan_refused c.args.part.now c.args.plan.now at c.args.act false true
    (has_leaves c.args.plan.now c.args.leaves.now c.requires.leaves c.if-is_empty.ensures)
    (ap (leaves_refusal at c.args.part.now.material) (sym c.requires.leaves) ∙ sym (c.in_default.ensures.refusal at found))
    (ap (list_any (λ leaf. is_over (count_of c.args.plan.now.tree leaf.demand) (at leaf.demand))) (sym c.requires.leaves) ∙ sym (c.is_too_many.ensures.test at found) ∙ c.if-is_too_many.false)
    (lt-ltb MAX_NUMBERS c.args.act c.if-act-gt-MAX_NUMBERS.true))

pub returns-clause-refusal : goal.returns-clause-refusal
returns-clause-refusal c =
    λ at found.
    sym (plan_refused c.args.part.now c.args.plan.now at c.args.act false false
    (has_leaves c.args.plan.now c.args.leaves.now c.requires.leaves c.if-is_empty.ensures)
    (ap (leaves_refusal at c.args.part.now.material) (sym c.requires.leaves) ∙ sym (c.in_default.ensures.refusal at found))
    (ap (list_any (λ leaf. is_over (count_of c.args.plan.now.tree leaf.demand) (at leaf.demand))) (sym c.requires.leaves) ∙ sym (c.is_too_many.ensures.test at found) ∙ c.if-is_too_many.false)
    (le-ltb MAX_NUMBERS c.args.act c.if-act-gt-MAX_NUMBERS.false))
