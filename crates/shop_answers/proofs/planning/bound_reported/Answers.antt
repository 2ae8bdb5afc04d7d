use Rattle.std.proofs.Common.{◌∙◌}
use Rattle.shop_answers.specs.Planning.{IsBounded, IsBoundAnswer}
use Rattle.shop_answers.proofs.PlanningDecision.{reports_more, bounded_answer, refused_answer}
use Rattle.shop_answers.proofs.planning.bound_reported.Goals as goal

pub returns-in-Ok-clause-reported : goal.returns-in-Ok-clause-reported
returns-in-Ok-clause-reported c =
    λ at numbers asked.
    let allowed = c.in-Ok.ensures.ok at numbers asked in
    let material = c.in-Some.material in
    reports_more (IsBounded material.kind c.in-Some-new.size material.limits.kerf c.args.step c.deref.result.now)
    (IsBoundAnswer c.args.material c.args.code (record { w = c.args.w; h = c.args.h }) at numbers c.args.step)
    (bounded_answer c.args.material c.args.code c.args.w c.args.h c.in-Some-new.size material at numbers c.args.step c.in-Some.is c.in-Some-new.ensures
    c.deref.result.now allowed.0 (c.deref.ensures.value ∙ allowed.1)) c.bounded.result c.bounded.ensures.reported

pub returns-in-Err-clause-reported : goal.returns-in-Err-clause-reported
returns-in-Err-clause-reported c =
    λ at numbers asked other.
    refused_answer c.args.material c.args.code c.args.w c.args.h c.in-Some-new.size c.in-Some.material at numbers c.args.step c.in-Some.is c.in-Some-new.ensures
    c.in-Err.refusal (c.in-Err.ensures.err other at numbers asked)
