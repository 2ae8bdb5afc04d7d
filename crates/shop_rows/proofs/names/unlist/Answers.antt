use Rattle.std.proofs.Common.{refl, ◌∙◌}
use Rattle.shop_rows.proofs.Listed.{unlisted_none, unlisted_same, unlisted_taken}
use Rattle.shop_rows.proofs.names.unlist.Goals as goal

pub returns-in_default-clause-others : goal.returns-in_default-clause-others
returns-in_default-clause-others c = λ find lists is. unlisted_none c.args.part.now find c.args.lists.now.items lists (is ∙ c.in_default.is)

pub returns-then-is-clause-others : goal.returns-then-is-clause-others
returns-then-is-clause-others c = λ find lists is. unlisted_same c.args.part.now find c.args.lists.now.items lists c.in-Some.old (is ∙ c.in-Some.is) (c.is.ensures.0 c.if-is.true)

pub returns-clause-others : goal.returns-clause-others
returns-clause-others c = λ find lists is.
    unlisted_taken c.args.part.now find c.args.lists.now.items lists c.in-Some.old c.settle_key.new.lists.items (is ∙ c.in-Some.is) c.settle_key.ensures.settled

pub returns-clause-spare : goal.returns-clause-spare
returns-clause-spare c = c.settle_key.ensures.less refl
