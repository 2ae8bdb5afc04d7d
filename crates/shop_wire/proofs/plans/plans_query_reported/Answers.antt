use Rattle.shop_wire.specs.Responses.{response_of}
use Rattle.shop_wire.proofs.Answered.{reports_refusal}
use Rattle.shop_wire.proofs.plans.plans_query_reported.Goals as goal

pub returns-in-Err-clause-answer : goal.returns-in-Err-clause-answer
returns-in-Err-clause-answer g c = λ clean_disk m held.
    reports_refusal m c.args.query.now c.in-Err.refusal (response_of c.refused.result) c.refused.ensures.reported (c.in-Err.ensures.answer clean_disk m held)
