use Rattle.shop_serve.proofs.PlanTasks.{none-asks, some-asks}
use Rattle.shop_serve.proofs.searching.time_to_wait.Goals as goal

pub returns-then-is_some-clause-idle : goal.returns-then-is_some-clause-idle
returns-then-is_some-clause-idle g c none =
    absurd (some-asks c.args.clients.now c.next_task.result c.is_some.result c.is_some.ensures c.if-is_some.true c.next_task.ensures.some none)

pub returns-clause-asks : goal.returns-clause-asks
returns-clause-asks g c key asks =
    absurd (none-asks c.args.clients.now c.next_task.result c.is_some.result c.is_some.ensures c.if-is_some.false c.next_task.ensures.none key asks)
