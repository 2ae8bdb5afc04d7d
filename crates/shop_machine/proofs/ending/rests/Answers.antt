use Rattle.std.proofs.Common.{sym, ap, ◌∙◌}
use Rattle.std.specs.Prelude.{◌&&◌}
use Rattle.std.specs.List.{list_all}
use Rattle.cut_tree.specs.Tree.{count_of}
use Rattle.shop_machine.specs.Ending.{has_reserved}
use Rattle.shop_machine.specs.Recounts.{plan_leaves}
use Rattle.shop_machine.proofs.ending.rests.Goals as goal

pub returns-then-is_held-clause-test : goal.returns-then-is_held-clause-test
returns-then-is_held-clause-test c =
    λ at material found.
    c.are_reserved.ensures.test at found
    ∙ ap (list_all (λ leaf. has_reserved (count_of c.args.job.now.plan.tree leaf.demand) (at leaf.demand))) c.requires.leaves
    ∙ ap (λ b. b && list_all (λ leaf. has_reserved (count_of c.args.job.now.plan.tree leaf.demand) (at leaf.demand)) (plan_leaves c.args.job.now.plan)) (sym c.if-is_held.true ∙ c.is_held.ensures.test)
