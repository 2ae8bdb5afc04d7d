use Rattle.shop_serve.proofs.PlanTasks.{IsFoundSo}
use Rattle.shop_serve.proofs.searching.next_task.Given as goal

abbrev pub invariant-loop-key : goal.invariant-loop-key
invariant-loop-key g l =
    (goal.iterator-loop-key g).can_next l.key-iterator × (goal.iterator-loop-key g).is_finite l.key-iterator × IsFoundSo l.clients l.key-iterator l.found
