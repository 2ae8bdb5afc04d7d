use Rattle.std.proofs.Common.{◌≡◌}
use Rattle.shop_planning.specs.PlanTasks.{instance_in}
use Rattle.shop_planning.proofs.planning.step_search.Given as goal

abbrev pub invariant-loop : goal.invariant-loop
invariant-loop l = instance_in l.task ≡ instance_in l.initial.task
