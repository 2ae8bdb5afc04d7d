use Rattle.std.proofs.Common.{inl, refl}
use Rattle.serde_json.specs.View.{view}
use Rattle.shop_forms.specs.Forms.{message_of}
use Rattle.shop_desk.proofs.Justified.{up_answer}
use Rattle.shop_wire.specs.Replays.{ValueStep}
use Rattle.shop_wire.specs.Responses.{response_of}
use Rattle.shop_wire.proofs.Answered.{message_answered, one_refused, of_no_memory}
use Rattle.shop_wire.proofs.answers.value_reported.Goals as goal

pub returns-in-Ok-clause-step : goal.returns-in-Ok-clause-step
returns-in-Ok-clause-step g c = λ clean_disk m held well_formed.
    let h = c.handle_with_text-reply in
    let l = h.ensures.step clean_disk m held well_formed in
    message_answered g.B.Book c.args.book.now h.new.book m (view c.args.value.now) c.in-Ok.message h.result.0 l.next c.in-Ok.ensures.ok h.ensures.message l.step l.held l.well_formed l.crash (h.ensures.store_fault clean_disk m held well_formed)

pub returns-in-Ok-clause-failures : goal.returns-in-Ok-clause-failures
returns-in-Ok-clause-failures g c =
    let h = c.handle_with_text-reply in
    up_answer (g.B.Book.failed c.args.book.now) (g.B.Book.failed h.new.book) h.result.0 h.ensures.failures

pub returns-in-NoMemory-clause-step : goal.returns-in-NoMemory-clause-step
returns-in-NoMemory-clause-step g c = λ clean_disk m held well_formed.
    one_refused g.B.Book c.args.book.now c.args.book.now m ValueStep message_of (view c.args.value.now) _ (response_of c.refused.result) c.refused.ensures.reported (inl refl)
    (of_no_memory m (view c.args.value.now)) held well_formed (λ left it. it)

pub returns-in_default-clause-step : goal.returns-in_default-clause-step
returns-in_default-clause-step g c = c.query_reported.ensures.step (c.in-Err.ensures.err c.in_default.not-NoMemory).1
