use Rattle.shop_answers.proofs.PlanningDecision.{asked_ok}
use Rattle.shop_answers.proofs.planning.asked_wants.Goals as goal

pub returns-in-Ok-clause-ok : goal.returns-in-Ok-clause-ok
returns-in-Ok-clause-ok c =
    λ at numbers asked.
    asked_ok at c.args.material.now numbers c.args.demands.now c.in-Some.found c.as_slice.result.now c.as_slice-2.result.now c.in-Ok.wants.items c.in-Some.is c.as_slice.ensures c.as_slice-2.ensures
    (c.in_default-demands_refusal.ensures.refusal at) c.in-Ok.ensures.wants asked
