use Rattle.std.proofs.Common.{◌≡◌, ℕ, ◌-◌, length, get_or, take, drop, true, refl, sym, ap, subst, ◌∙◌, arith}
use Rattle.std.specs.Prelude.{Any, MatchOption}
use Rattle.cut_tree.specs.Tree.{count_of}
use Rattle.shop_machine.specs.declared.recounts.FoundLeaf.{FoundLeaf}
use Rattle.shop_machine.specs.Recounts.{CanBeMade, IsAlike}
use Rattle.shop_machine.specs.Ending.{has_reserved}
use Rattle.shop_machine.proofs.RecountedRows.{reserved_more, after_fewer, found_after, numbered_after, again_all, again_holds}
use Rattle.shop_machine.proofs.ending.+are_reserved.Goals as goal

pub returns-in-true-clause-test : goal.returns-in-true-clause-test
returns-in-true-clause-test c d =
    λ at found.
    reserved_more d.args.plan.now.tree at d.args.leaves.now d.are_reserved-in-true.result d.found-item.result d.in-len1-up.len_at_least found
    (subst (λ (f : FoundLeaf). has_reserved (count_of d.args.plan.now.tree f.leaf.demand) f.demand ≡ true) d.found-item.is
    (ap (λ n. has_reserved n d.found-item.result.demand) (sym d.count.ensures) ∙ sym d.in-true.ensures.test))
    (d.are_reserved-in-true.ensures.test at (found_after at d.args.leaves.now found))

pub are_reserved-requires-in-true : goal.are_reserved-requires-in-true
are_reserved-requires-in-true t c =
    let fewer = after_fewer c.args.leaves.now c.in-len1-up.len_at_least in (omega (arith, fewer, c.decreases), numbered_after c.args.leaves.now c.requires.numbered)

-- a later leaf is of the same demand
abbrev Again : (t : ℕ) → goal.After-are_reserved t → Type 0
Again t c = Any (IsAlike (get_or c.args.leaves.now 0 c.found-item.result)) (take (length c.args.leaves.now - 1) (drop 1 c.args.leaves.now))

again : (t : ℕ) (c : goal.After-are_reserved t) → Again t c
again t c =
    subst (λ (f : FoundLeaf). Any (IsAlike f) (take (length c.args.leaves.now - 1) (drop 1 c.args.leaves.now))) c.found-item.is (c.if-stands_again.ensures refl)

pub returns-then-stands_again-clause-test : goal.returns-then-stands_again-clause-test
returns-then-stands_again-clause-test t c =
    λ at found.
    again_all (λ n. has_reserved (count_of c.args.plan.now.tree n) (at n)) c.args.leaves.now c.are_reserved.result c.found-item.result c.in-len1-up.len_at_least (again t c)
    (c.are_reserved.ensures.test at (found_after at c.args.leaves.now found))

pub returns-then-stands_again-clause-rows : goal.returns-then-stands_again-clause-rows
returns-then-stands_again-clause-rows t c =
    λ yes.
    again_holds (λ n o. MatchOption o ⊥ (λ demand. (demand.number ≡ n) × CanBeMade (count_of c.args.plan.now.tree n) demand)) c.args.leaves.now c.found-item.result c.in-len1-up.len_at_least (again t c)
    (c.are_reserved.ensures.rows yes)
