use Rattle.std.proofs.Common.{◌∷◌, [], Some, refl, append-nil}
use Rattle.shop_wire.specs.Replays.{response_line}
use Rattle.shop_wire.specs.Responses.{response_of}
use Rattle.shop_wire.proofs.Replayed.{one_replayed}
use Rattle.shop_wire.proofs.replays.hold_answer.Goals as goal

pub returns-in-Ok-clause-ok : goal.returns-in-Ok-clause-ok
returns-in-Ok-clause-ok g c =
    let response = response_of c.answer-reported.result in
    one_replayed g.B.Book c.args.book.now c.answer-reported.new.book (Some c.args.held.now.items) (Some c.hold_reported.new.held.items)
    c.args.line.now response (response_line response) [] (append-nil (response_line response)) c.in-Ok.ensures.ok
    (record { answered = c.answer-reported.ensures.step; clean_disk = c.answer-reported.ensures.clean_disk; failures = c.answer-reported.ensures.failures })

pub returns-in-Err-clause-err : goal.returns-in-Err-clause-err
returns-in-Err-clause-err g c =
    let part = c.in-Err.ensures.err in (
      c.args.line.now ∷ [],
      [],
      refl,
      part.1,
      one_replayed g.B.Book c.args.book.now c.answer-reported.new.book (Some c.args.held.now.items) (Some c.hold_reported.new.held.items)
          c.args.line.now (response_of c.answer-reported.result) part.0 part.1 part.2 part.3
          (record { answered = c.answer-reported.ensures.step; clean_disk = c.answer-reported.ensures.clean_disk; failures = c.answer-reported.ensures.failures }),
    )
