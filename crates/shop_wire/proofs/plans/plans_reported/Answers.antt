use Rattle.shop_records.specs.declared.refusals.Refusal.TheVariants.{StoreFault}
use Rattle.shop_wire.specs.Responses.{response_of}
use Rattle.shop_wire.proofs.Answered.{plans_answered_to, plans_unread, unread_not_store}
use Rattle.shop_wire.proofs.Begun.{asked_none, asked_some, reported_refusal}
use Rattle.shop_wire.proofs.plans.plans_reported.Goals as goal

pub returns-in-Ok-clause-answer : goal.returns-in-Ok-clause-answer
returns-in-Ok-clause-answer g c = λ meant read clean_disk m held.
    plans_answered_to m meant c.in-Ok.query (response_of c.plans_query_reported.result) (asked_some c.args.asked meant c.in-Ok.query c.in-Ok.is read) (c.plans_query_reported.ensures.answer clean_disk m held)

pub returns-in-Err-clause-answer : goal.returns-in-Err-clause-answer
returns-in-Err-clause-answer g c = λ meant read clean_disk m held.
    plans_unread m meant c.in-Err.refusal (response_of c.refused.result) (asked_none c.args.asked meant c.in-Err.refusal c.in-Err.is read) c.refused.ensures.reported

pub returns-in-Err-clause-store_fault : goal.returns-in-Err-clause-store_fault
returns-in-Err-clause-store_fault g c = λ meant read e.
    absurd (unread_not_store c.in-Err.refusal meant (asked_none c.args.asked meant c.in-Err.refusal c.in-Err.is read) (reported_refusal c.in-Err.refusal StoreFault (response_of c.refused.result) c.refused.ensures.reported e))
