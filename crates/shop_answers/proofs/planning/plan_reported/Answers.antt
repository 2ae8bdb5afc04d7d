use Rattle.std.proofs.Common.{sym, ◌∙◌}
use Rattle.shop_answers.specs.Planning.{IsPlanned, IsPlanAnswer, planned_size}
use Rattle.shop_answers.proofs.PlanningDecision.{reports_more, planned_answer}
use Rattle.shop_answers.proofs.planning.plan_reported.Goals as goal

pub returns-in-Ok-clause-reported : goal.returns-in-Ok-clause-reported
returns-in-Ok-clause-reported c =
    λ at numbers asked.
    let allowed = c.in-Ok.ensures.ok at numbers asked in
    let material = c.in-Some-material.material in
    reports_more (IsPlanned material.kind (planned_size material.kind c.in-Some.part.size) material.limits.kerf c.args.step c.deref.result.now)
    (IsPlanAnswer c.args.part c.args.material at numbers c.args.step)
    (planned_answer c.args.part c.args.material c.in-Some.part material at numbers c.args.step c.deref.result.now c.in-Some.is c.in-Some-material.is
    (sym c.is_free.ensures ∙ c.if-not-is_free.false) allowed.0 (c.deref.ensures.value ∙ allowed.1)) c.planned.result c.planned.ensures.reported
