use Rattle.std.proofs.Common.{inl, refl}
use Rattle.shop_forms.specs.Forms.{message_of, query_of}
use Rattle.serde_json.specs.View.{view}
use Rattle.shop_plans.specs.Queries.{plans_query_of}
use Rattle.shop_wire.specs.Replays.{ValueStep}
use Rattle.shop_wire.specs.Responses.{response_of}
use Rattle.shop_wire.proofs.Answered.{query_answered, plans_answered, plans_read, one_refused, of_no_memory}
use Rattle.shop_wire.proofs.Meant.{nothing_there}
use Rattle.shop_desk.proofs.Justified.{up_reply}
use Rattle.shop_wire.proofs.answers.query_reported.Goals as goal

pub returns-in-Ok-clause-step : goal.returns-in-Ok-clause-step
returns-in-Ok-clause-step g c = λ none clean_disk m held well_formed.
    query_answered g.B.Book c.args.book.now c.ask.new.book m (view c.args.value.now) c.in-Ok.query c.ask.result none c.in-Ok.ensures.ok (c.ask.ensures.answer clean_disk m held)
    (c.ask.ensures.keeps.stays clean_disk m held) well_formed (c.ask.ensures.keeps.crash clean_disk m held) c.ask.ensures.store_fault

pub returns-in-Ok-clause-failures : goal.returns-in-Ok-clause-failures
returns-in-Ok-clause-failures g c = up_reply (g.B.Book.failed c.args.book.now) (g.B.Book.failed c.ask.new.book) c.ask.result c.ask.ensures.keeps.failures

pub returns-in-NoMemory-clause-step : goal.returns-in-NoMemory-clause-step
returns-in-NoMemory-clause-step g c = λ none clean_disk m held well_formed.
    one_refused g.B.Book c.args.book.now c.args.book.now m ValueStep message_of (view c.args.value.now) _ (response_of c.refused.result) c.refused.ensures.reported (inl refl)
    (of_no_memory m (view c.args.value.now)) held well_formed (λ left it. it)

pub returns-in_default-clause-step : goal.returns-in_default-clause-step
returns-in_default-clause-step g c = λ none clean_disk m held well_formed.
    let d = view c.args.value.now in
    let asked = plans_query_of d in
    let read = plans_read c.read_plans.result asked c.read_plans.ensures.ok c.read_plans.ensures.err in
    plans_answered g.B.Book c.args.book.now c.plans_reported.new.book m d (response_of c.plans_reported.result) none (nothing_there c.in-Err.refusal (query_of d) c.in-Err.ensures.err c.in_default.not-NoMemory)
    (c.plans_reported.ensures.answer asked read clean_disk m held) (c.plans_reported.ensures.keeps.stays clean_disk m held) well_formed (c.plans_reported.ensures.keeps.crash clean_disk m held) (c.plans_reported.ensures.store_fault asked read)

pub returns-in_default-clause-clean_disk : goal.returns-in_default-clause-clean_disk
returns-in_default-clause-clean_disk g c = c.plans_reported.ensures.keeps.clean_disk

pub returns-in_default-clause-failures : goal.returns-in_default-clause-failures
returns-in_default-clause-failures g c = c.plans_reported.ensures.keeps.failures
