use Rattle.shop_planning.specs.PlanTasks.{instance_in}
use Rattle.shop_planning.proofs.Reported.{answer_reported}
use Rattle.shop_planning.proofs.planning.plan_all.Goals as goal

pub returns-in-Ok-finish_task-clause-answer : goal.returns-in-Ok-finish_task-clause-answer
returns-in-Ok-finish_task-clause-answer g c = λ clean_disk m held.
    answer_reported m c.args.query.now (instance_in c.in-Ok.task) c.in-Ok-finish_task.text (c.in-Ok.ensures.answer clean_disk m held) c.in-Ok-finish_task.ensures
