use Rattle.serde_json.specs.View.{view}
use Rattle.shop_wire.specs.Replays.{LineStep, data_of, line_message}
use Rattle.shop_wire.specs.Responses.{response_of}
use Rattle.shop_wire.proofs.Answered.{value_answered, one_refused, line_unread, unread_line}
use Rattle.shop_wire.proofs.answers.answer.Goals as goal

pub returns-in-Ok-clause-step : goal.returns-in-Ok-clause-step
returns-in-Ok-clause-step g c = λ clean_disk m held well_formed.
    value_answered g.B.Book c.args.book.now c.value_reported.new.book m c.args.line.now (view c.in-Ok.value) (response_of c.value_reported.result) c.in-Ok.ensures (c.value_reported.ensures.step clean_disk m held well_formed)

pub returns-in-Err-clause-step : goal.returns-in-Err-clause-step
returns-in-Err-clause-step g c = λ clean_disk m held well_formed.
    one_refused g.B.Book c.args.book.now c.args.book.now m LineStep line_message c.args.line.now c.in-Err.refusal (response_of c.refused.result) c.refused.ensures.reported
    (unread_line c.in-Err.refusal (data_of c.args.line.now) c.in-Err.ensures) (line_unread m c.args.line.now c.in-Err.refusal c.in-Err.ensures) held well_formed (λ left it. it)
