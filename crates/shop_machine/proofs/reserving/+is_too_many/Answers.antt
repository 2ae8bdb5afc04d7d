use Rattle.std.proofs.Common.{◌≡◌, ℕ, ◌-◌, length, get_or, take, drop, refl, sym, ap, subst, ◌∙◌, false}
use Rattle.std.specs.Prelude.{Any, IfSome}
use Rattle.cut_tree.specs.Tree.{count_of}
use Rattle.shop_machine.specs.declared.recounts.FoundLeaf.{FoundLeaf}
use Rattle.shop_machine.specs.declared.recounts.Recount.TheVariants.{Reserved}
use Rattle.shop_machine.specs.Recounts.{CanRecount, IsAlike}
use Rattle.shop_machine.specs.Reserving.{is_over}
use Rattle.shop_machine.proofs.RecountedRows.{over_more, found_after, again_any, again_holds}
use Rattle.shop_machine.proofs.reserving.+is_too_many.Goals as goal

pub returns-in-false-clause-test : goal.returns-in-false-clause-test
returns-in-false-clause-test c d =
    λ at found.
    over_more d.args.plan.now.tree at d.args.leaves.now d.is_too_many-in-false.result d.found-item.result d.in-len1-up.len_at_least found
    (subst (λ (f : FoundLeaf). is_over (count_of d.args.plan.now.tree f.leaf.demand) f.demand ≡ false) d.found-item.is
    (ap (λ n. is_over n d.found-item.result.demand) (sym d.count.ensures) ∙ sym d.in-false.ensures.test))
    (d.is_too_many-in-false.ensures.test at (found_after at d.args.leaves.now found))

-- a later leaf is of the same demand
abbrev Again : (c : ℕ) → goal.After-is_too_many c → Type 0
Again c d = Any (IsAlike (get_or d.args.leaves.now 0 d.found-item.result)) (take (length d.args.leaves.now - 1) (drop 1 d.args.leaves.now))

again : (c : ℕ) (d : goal.After-is_too_many c) → Again c d
again c d =
    subst (λ (f : FoundLeaf). Any (IsAlike f) (take (length d.args.leaves.now - 1) (drop 1 d.args.leaves.now))) d.found-item.is (d.if-stands_again.ensures refl)

pub returns-then-stands_again-clause-test : goal.returns-then-stands_again-clause-test
returns-then-stands_again-clause-test c d =
    λ at found.
    again_any (λ n. is_over (count_of d.args.plan.now.tree n) (at n)) d.args.leaves.now d.is_too_many.result d.found-item.result d.in-len1-up.len_at_least (again c d)
    (d.is_too_many.ensures.test at (found_after at d.args.leaves.now found))

pub returns-then-stands_again-clause-in_limit : goal.returns-then-stands_again-clause-in_limit
returns-then-stands_again-clause-in_limit c d =
    λ free.
    again_holds (λ n o. IfSome o (CanRecount Reserved (count_of d.args.plan.now.tree n))) d.args.leaves.now d.found-item.result d.in-len1-up.len_at_least (again c d)
    (d.is_too_many.ensures.in_limit free)
