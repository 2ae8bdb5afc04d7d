-- What is searched.
use Rattle.shop_planning.specs.declared.instance.PlanInstance.{PlanInstance}
use Rattle.shop_planning.specs.declared.task.PlanTask.{PlanTask}

abbrev pub instance_in : PlanTask → PlanInstance
instance_in task = task.instance
