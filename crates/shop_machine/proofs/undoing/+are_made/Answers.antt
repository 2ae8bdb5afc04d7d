use Rattle.std.proofs.Common.{◌≡◌, false, true, sym, ap, subst, ◌∙◌, arith}
use Rattle.shop_machine.specs.declared.recounts.FoundLeaf.{FoundLeaf}
use Rattle.shop_machine.specs.Recounts.{pieces_in}
use Rattle.shop_machine.specs.Undoing.{has_made}
use Rattle.shop_machine.proofs.RecountedRows.{after_fewer, found_after, made_rows, numbered_after, test_more, test_none}
use Rattle.shop_machine.proofs.undoing.+are_made.Goals as goal

pub returns-in-true-clause-test : goal.returns-in-true-clause-test
returns-in-true-clause-test t d =
    λ at found.
    test_more (λ n o. has_made (pieces_in n d.args.rows.now) o) at d.args.leaves.now d.are_made.result d.found-item.result d.in-len1-up.len_at_least found
    (subst (λ (f : FoundLeaf). has_made (pieces_in f.leaf.demand d.args.rows.now) f.demand ≡ true) d.found-item.is
    (ap (λ n. has_made n d.found-item.result.demand) (sym d.pieces_in.ensures) ∙ sym d.in-true.ensures))
    (d.are_made.ensures.test at (found_after at d.args.leaves.now found))

pub returns-in-true-clause-rows : goal.returns-in-true-clause-rows
returns-in-true-clause-rows t d =
    λ tree yes.
    made_rows d.args.rows.now tree d.args.leaves.now d.found-item.result d.in-len1-up.len_at_least d.requires.numbered
    (subst (λ (f : FoundLeaf). has_made (pieces_in f.leaf.demand d.args.rows.now) f.demand ≡ true) d.found-item.is
    (ap (λ n. has_made n d.found-item.result.demand) (sym d.pieces_in.ensures) ∙ sym d.in-true.ensures))
    (d.are_made.ensures.rows tree yes)

pub returns-in-false-clause-test : goal.returns-in-false-clause-test
returns-in-false-clause-test t d =
    λ at found.
    test_none (λ n o. has_made (pieces_in n d.args.rows.now) o) at d.args.leaves.now d.found-item.result d.in-len1-up.len_at_least found
    (subst (λ (f : FoundLeaf). has_made (pieces_in f.leaf.demand d.args.rows.now) f.demand ≡ false) d.found-item.is
    (ap (λ n. has_made n d.found-item.result.demand) (sym d.pieces_in.ensures) ∙ sym d.in-false.ensures))

pub are_made-requires : goal.are_made-requires
are_made-requires t c =
    let fewer = after_fewer c.args.leaves.now c.in-len1-up.len_at_least in (omega (arith, fewer, c.decreases), numbered_after c.args.leaves.now c.requires.numbered)
