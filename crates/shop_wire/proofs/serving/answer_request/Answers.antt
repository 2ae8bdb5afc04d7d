use Rattle.std.proofs.Common.{append-nil}
use Rattle.shop_wire.specs.AnswerBytes.{answer_bytes, response_answer}
use Rattle.shop_wire.specs.Responses.{response_of}
use Rattle.shop_wire.proofs.serving.answer_request.Goals as goal

pub returns-in-Ok-clause-ok : goal.returns-in-Ok-clause-ok
returns-in-Ok-clause-ok g c =
    let response = response_of c.respond-reported.result in
    let whole = answer_bytes (response_answer c.args.route response) in
    record { response = response; bytes = whole; reported = append-nil whole; written = c.in-Ok.ensures.ok whole c.reported_text.ensures; run = record { run = c.respond-reported.ensures.served; keeps = c.respond-reported.ensures.stays } }

pub returns-in-Err-clause-err : goal.returns-in-Err-clause-err
returns-in-Err-clause-err g c =
    let response = response_of c.respond-reported.result in
    let part = c.in-Err.ensures.err (answer_bytes (response_answer c.args.route response)) c.reported_text.ensures in
    (part.1, record { response = response; bytes = part.0; reported = part.2; written = part.3; run = record { run = c.respond-reported.ensures.served; keeps = c.respond-reported.ensures.stays } })
