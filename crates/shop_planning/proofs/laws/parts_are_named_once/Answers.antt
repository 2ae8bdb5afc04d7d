use Rattle.shop_planning.proofs.NamedOnce.{named_once}
use Rattle.shop_planning.proofs.laws.parts_are_named_once.Goals as goal

pub returns : goal.returns
returns c = λ m query instance reply name asks is.
    named_once instance asks.material.kind query.buy is.plan.units.items reply.plans.items name asks.is.sizes is.plans
