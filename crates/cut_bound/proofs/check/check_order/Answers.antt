use Rattle.cut_bound.proofs.CheckedOrders.{refused_plan, reported_cheapest}
use Rattle.cut_bound.proofs.check.check_order.Goals as goal

pub returns-clause-proved : goal.returns-clause-proved
returns-clause-proved c = reported_cheapest c.args.wants.now c.args.kerf c.args.sizes.now c.args.bound c.args.units.now c.checked_units.result c.checked_units.ensures.ok

pub returns-clause-passes : goal.returns-clause-passes
returns-clause-passes c = refused_plan c.args.wants.now c.args.kerf c.args.sizes.now c.args.units.now c.checked_units.result c.checked_units.ensures.err
