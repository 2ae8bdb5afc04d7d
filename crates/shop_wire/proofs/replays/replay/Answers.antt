use Rattle.std.proofs.Common.{◌∙◌, [], inr, refl, sym}
use Rattle.std.specs.Io.KnownBytes.{prepend_known}
use Rattle.std.proofs.lemmas.Result.{err_from_is_err_and}
use Rattle.shop_wire.proofs.Passed.{ok_passed, err_passed, part_passed}
use Rattle.shop_wire.proofs.Replayed.{none_read, some_read, none_replayed, for_the_fault, not_read}
use Rattle.shop_wire.proofs.replays.replay.Goals as goal

pub returns-in_err-pass_on-clause-err : goal.returns-in_err-pass_on-clause-err
returns-in_err-pass_on-clause-err g c =
    let before = c.answer_lines-outcome in
    let part = c.in_err-pass_on.ensures.err in
    let exit = err_from_is_err_and c.from_residual.result c.from_residual.ensures.1 in
    let left = part_passed g.B.Book c.args.book.now before.new.book (g.S.Source.left c.args.source.now) (g.W.Sink.held c.args.sink.now) (g.W.Sink.held before.new.sink) (g.W.Sink.held c.pass_on.new.sink)
    before.new.held.items before.result part.0 part.1 part.2 part.3 before.ensures.ok before.ensures.err in
    for_the_fault c.from_residual.result _ exit.0 exit.1
    (left.0, left.1, left.2, left.3, (λ is. not_read c.in_err-pass_on.field-0.0 left.3 (inr c.in_err-pass_on.ensures.fault.0) (sym exit.2 ∙ is)), left.4)

pub returns-in_default-clause-err : goal.returns-in_default-clause-err
returns-in_default-clause-err g c =
    let left = g.S.Source.left c.args.source.now in
    let read = some_read left (prepend_known [] left) [] (none_read left) in
    ([], read.0, read.1, [], (λ _. refl), none_replayed g.B.Book c.args.book.now (g.W.Sink.held c.args.sink.now))

pub returns-clause-ok : goal.returns-clause-ok
returns-clause-ok g c =
    let before = c.answer_lines-outcome in
    ok_passed g.B.Book c.args.book.now before.new.book (g.S.Source.left c.args.source.now) (g.W.Sink.held c.args.sink.now) (g.W.Sink.held before.new.sink) (g.W.Sink.held c.pass_on.new.sink)
    before.new.held.items before.result c.in_ok-pass_on.ensures.ok before.ensures.ok

pub returns-clause-err : goal.returns-clause-err
returns-clause-err g c =
    let before = c.answer_lines-outcome in
    err_passed g.B.Book c.args.book.now before.new.book (g.S.Source.left c.args.source.now) (g.W.Sink.held c.args.sink.now) (g.W.Sink.held before.new.sink) (g.W.Sink.held c.pass_on.new.sink)
    before.new.held.items before.result c.in_ok-pass_on.ensures.ok before.ensures.err
