use Rattle.std.proofs.Common.{◌+◌, ◌∷◌, ◌++◌, [], inl, inr, Ok, Some, refl, sym, ap, subst, ◌∙◌, arith, append-nil, length-append}
use Rattle.std.proofs.lemmas.Result.{err_from_is_err_and}
use Rattle.std.specs.Io.KnownBytes.{prepend_known}
use Rattle.shop_wire.specs.Lines.{pending}
use Rattle.shop_wire.specs.Replays.{IsReplayed}
use Rattle.shop_wire.specs.Streams.{CountTogether, TookBytes}
use Rattle.shop_desk.proofs.Justified.{up_same, up_more}
use Rattle.shop_wire.proofs.Reading.{together_none, together_more, took_none, took_more}
use Rattle.shop_wire.proofs.Replayed.{HasRead, none_read, line_read, all_read, some_read, first_read, none_replayed, more_held, passed_on, whole_replayed, part_replayed, work_before, for_each_fault, for_the_fault, not_read}
use Rattle.shop_wire.proofs.replays.answer_lines.Goals as goal

pub loop-line-init : goal.loop-line-init
loop-line-init g c =
    let left = g.S.Source.left c.args.source.now in
    let none = c.new-reader.ensures.none in (
      [],
      subst (λ p. HasRead left (prepend_known p left) []) (sym none) (none_read left),
      refl,
      subst (IsReplayed g.B.Book c.args.book.now c.args.book.now (g.W.Sink.held c.args.sink.now) (g.W.Sink.held c.args.sink.now) []) (sym c.requires) (none_replayed g.B.Book c.args.book.now (g.W.Sink.held c.args.sink.now)),
      (λ clean_disk. clean_disk),
      up_same (g.B.Book.failed c.args.book.now) (g.B.Book.failed c.args.book.now) refl,
      omega (arith, c.new-reader.ensures.reads),
      (λ ended. absurd (cc (sym c.new-reader.ensures.goes_on ∙ ended))),
      (λ _. subst (λ r. TookBytes 0 left r left) (sym c.new-reader.ensures.reads) (took_none 0 left)),
      subst (λ r. CountTogether 0 (g.S.Source.reads c.args.source.now) r (g.S.Source.reads c.args.source.now)) (sym c.new-reader.ensures.reads) (together_none 0 (g.S.Source.reads c.args.source.now)),
      refl,
      refl,
      work_before _ _ c.new-reader.ensures.reads none,
    )

pub returns-in_err-next_line-clause-err : goal.returns-in_err-next_line-clause-err
returns-in_err-next_line-clause-err g c =
    let so_far = c.loop-line.invariant in
    let read = some_read (g.S.Source.left c.args.source.now) (prepend_known (pending c.loop-line.reader.buffer c.loop-line.reader.start c.loop-line.reader.end) (g.S.Source.left c.loop-line.source)) so_far.0 so_far.1 in
    let kept = subst (IsReplayed g.B.Book c.args.book.now c.loop-line.book (g.W.Sink.held c.args.sink.now) (g.W.Sink.held c.loop-line.sink) so_far.0) (sym (append-nil c.loop-line.held.items)) so_far.3 in
    for_each_fault c.from_residual.result _ (λ fault. (so_far.0, read.0, read.1, [], (λ _. refl), kept))

pub returns-in_default-clause-err : goal.returns-in_default-clause-err
returns-in_default-clause-err g c =
    let left = g.S.Source.left c.args.source.now in
    let read = some_read left (prepend_known [] left) [] (none_read left) in
    let held = g.W.Sink.held c.args.sink.now in
    let none = subst (IsReplayed g.B.Book c.args.book.now c.args.book.now held held []) (sym c.requires ∙ sym (append-nil c.args.held.now.items)) (none_replayed g.B.Book c.args.book.now held) in
    ([], read.0, read.1, [], (λ _. refl), none)

pub returns-clause-ok : goal.returns-clause-ok
returns-clause-ok g c =
    let so_far = c.loop-line.invariant in
    let now = prepend_known (pending c.loop-line.reader.buffer c.loop-line.reader.start c.loop-line.reader.end) (g.S.Source.left c.loop-line.source) in
    (so_far.0, all_read (g.S.Source.left c.args.source.now) now so_far.0 so_far.1 (c.in_ok-next_line.ensures.none (ap Ok c.if-branch.false)), so_far.2, so_far.3)

pub returns-in_err-hold_answer-clause-err : goal.returns-in_err-hold_answer-clause-err
returns-in_err-hold_answer-clause-err g c =
    let so_far = c.loop-line.invariant in
    let left = g.S.Source.left c.args.source.now in
    let now = prepend_known (pending c.loop-line.reader.buffer c.loop-line.reader.start c.loop-line.reader.end) (g.S.Source.left c.loop-line.source) in
    let next = prepend_known (pending c.next_line.new.self.buffer c.next_line.new.self.start c.next_line.new.self.end) (g.S.Source.left c.next_line.new.source) in
    let line = c.in_ok-next_line.ensures.line (ap Ok c.if-branch.true) in
    let stopped = c.in_err-hold_answer.ensures.err in
    let part = part_replayed g.B.Book c.loop-line.book c.hold_answer.new.book (Some c.loop-line.held.items) (Some c.hold_answer.new.held.items)
    line.0 stopped.3 stopped.0 stopped.1 (stopped.2 ∙ ap (λ l. l ∷ []) (c.deref.ensures.value ∙ line.1)) stopped.4 in
    let all = more_held g.B.Book c.args.book.now c.loop-line.book c.hold_answer.new.book (g.W.Sink.held c.args.sink.now) (g.W.Sink.held c.loop-line.sink)
    so_far.0 part.0 c.loop-line.held.items c.hold_answer.new.held.items stopped.3 c.hold_answer.ensures.clean_disk so_far.5 c.hold_answer.ensures.failures so_far.3 part.3 in
    let first = first_read left next so_far.0 part.0 part.1 line.0 (line_read left now next so_far.0 line.0 so_far.1 line.2) part.2 in
    let exit = err_from_is_err_and c.from_residual-in_err-hold_answer.result c.from_residual-in_err-hold_answer.ensures.1 in
    for_the_fault c.from_residual-in_err-hold_answer.result _ exit.0 exit.1
    (so_far.0 ++ part.0, first.0, first.1, stopped.3, (λ is. not_read c.in_err-hold_answer.field-0.0 stopped.3 (inl c.in_err-hold_answer.ensures.fault) (sym exit.2 ∙ is)), all)

pub returns-in_err-flush_if_due-clause-err : goal.returns-in_err-flush_if_due-clause-err
returns-in_err-flush_if_due-clause-err g c =
    let so_far = c.loop-line.invariant in
    let left = g.S.Source.left c.args.source.now in
    let now = prepend_known (pending c.loop-line.reader.buffer c.loop-line.reader.start c.loop-line.reader.end) (g.S.Source.left c.loop-line.source) in
    let next = prepend_known (pending c.next_line.new.self.buffer c.next_line.new.self.start c.next_line.new.self.end) (g.S.Source.left c.next_line.new.source) in
    let line = c.in_ok-next_line.ensures.line (ap Ok c.if-branch.true) in
    let kept = subst (λ l. IsReplayed g.B.Book c.loop-line.book c.hold_answer.new.book (Some c.loop-line.held.items) (Some c.hold_answer.new.held.items) (l ∷ []) [])
    (c.deref.ensures.value ∙ line.1) c.in_ok-hold_answer.ensures.ok in
    let one = whole_replayed g.B.Book c.loop-line.book c.hold_answer.new.book (Some c.loop-line.held.items) (Some c.hold_answer.new.held.items) line.0 [] kept in
    let held = subst (IsReplayed g.B.Book c.args.book.now c.hold_answer.new.book (g.W.Sink.held c.args.sink.now) (g.W.Sink.held c.loop-line.sink) (so_far.0 ++ line.0 ∷ [])) (append-nil c.hold_answer.new.held.items)
    (more_held g.B.Book c.args.book.now c.loop-line.book c.hold_answer.new.book (g.W.Sink.held c.args.sink.now) (g.W.Sink.held c.loop-line.sink)
    so_far.0 (line.0 ∷ []) c.loop-line.held.items c.hold_answer.new.held.items [] c.hold_answer.ensures.clean_disk so_far.5 c.hold_answer.ensures.failures so_far.3 one) in
    let part = c.in_err-flush_if_due.ensures.err in
    let all = passed_on g.B.Book c.args.book.now c.hold_answer.new.book (g.W.Sink.held c.args.sink.now) (g.W.Sink.held c.loop-line.sink) (g.W.Sink.held c.flush_if_due.new.sink)
    (so_far.0 ++ line.0 ∷ []) c.hold_answer.new.held.items part.0 part.1 part.2 part.3 held in
    let read = some_read left next (so_far.0 ++ line.0 ∷ []) (line_read left now next so_far.0 line.0 so_far.1 line.2) in
    let exit = err_from_is_err_and c.from_residual-in_err-flush_if_due.result c.from_residual-in_err-flush_if_due.ensures.1 in
    for_the_fault c.from_residual-in_err-flush_if_due.result _ exit.0 exit.1 (
      so_far.0 ++ line.0 ∷ [],
      read.0,
      read.1,
      part.1,
      (λ is. not_read c.in_err-flush_if_due.field-0.0 part.1 (inr c.in_err-flush_if_due.ensures.fault.0) (sym exit.2 ∙ is)),
      subst (λ l. IsReplayed g.B.Book c.args.book.now c.hold_answer.new.book (g.W.Sink.held c.args.sink.now) (g.W.Sink.held c.flush_if_due.new.sink) (so_far.0 ++ line.0 ∷ []) (l ++ part.1)) (sym c.in_err-flush_if_due.ensures.none) all,
    )

pub loop-line-preserved : goal.loop-line-preserved
loop-line-preserved g c =
    let so_far = c.loop-line.invariant in
    let left = g.S.Source.left c.args.source.now in
    let mid = c.loop-line.reader in
    let new = c.next_line.new.self in
    let now = prepend_known (pending mid.buffer mid.start mid.end) (g.S.Source.left c.loop-line.source) in
    let next = prepend_known (pending new.buffer new.start new.end) (g.S.Source.left c.next_line.new.source) in
    let line = c.in_ok-next_line.ensures.line (ap Ok c.if-branch.true) in
    let kept = subst (λ l. IsReplayed g.B.Book c.loop-line.book c.hold_answer.new.book (Some c.loop-line.held.items) (Some c.hold_answer.new.held.items) (l ∷ []) [])
    (c.deref.ensures.value ∙ line.1) c.in_ok-hold_answer.ensures.ok in
    let one = whole_replayed g.B.Book c.loop-line.book c.hold_answer.new.book (Some c.loop-line.held.items) (Some c.hold_answer.new.held.items) line.0 [] kept in
    let held = subst (IsReplayed g.B.Book c.args.book.now c.hold_answer.new.book (g.W.Sink.held c.args.sink.now) (g.W.Sink.held c.loop-line.sink) (so_far.0 ++ line.0 ∷ [])) (append-nil c.hold_answer.new.held.items)
    (more_held g.B.Book c.args.book.now c.loop-line.book c.hold_answer.new.book (g.W.Sink.held c.args.sink.now) (g.W.Sink.held c.loop-line.sink)
    so_far.0 (line.0 ∷ []) c.loop-line.held.items c.hold_answer.new.held.items [] c.hold_answer.ensures.clean_disk so_far.5 c.hold_answer.ensures.failures so_far.3 one) in
    let part = c.in_ok-flush_if_due.ensures.ok in (
      so_far.0 ++ line.0 ∷ [],
      line_read left now next so_far.0 line.0 so_far.1 line.2,
      ap (λ n. n + 1) so_far.2 ∙ sym (length-append so_far.0 (line.0 ∷ [])),
      passed_on g.B.Book c.args.book.now c.hold_answer.new.book (g.W.Sink.held c.args.sink.now) (g.W.Sink.held c.loop-line.sink) (g.W.Sink.held c.flush_if_due.new.sink)
          (so_far.0 ++ line.0 ∷ []) c.hold_answer.new.held.items part.0 c.flush_if_due.new.held.items part.1 part.2 held,
      (λ clean_disk. so_far.4 (c.hold_answer.ensures.clean_disk clean_disk)),
      up_more (g.B.Book.failed c.args.book.now) (g.B.Book.failed c.loop-line.book) (g.B.Book.failed c.hold_answer.new.book) so_far.5 c.hold_answer.ensures.failures,
      c.next_line.ensures.most,
      c.in_ok-next_line.ensures.ended,
      (λ goes_on.
          let took = c.in_ok-next_line.ensures.took goes_on in
          took_more 0 mid.reads new.reads left (g.S.Source.left c.loop-line.source) (g.S.Source.left c.next_line.new.source) (so_far.8 took.0) took.1),
      together_more 0 mid.reads new.reads (g.S.Source.reads c.args.source.now) (g.S.Source.reads c.loop-line.source) (g.S.Source.reads c.next_line.new.source) so_far.9 c.next_line.ensures.together,
      c.in_ok-next_line.ensures.failures ∙ so_far.10,
      c.in_ok-flush_if_due.ensures.worked ∙ so_far.11,
      omega (arith, so_far.12, c.in_ok-next_line.ensures.shorter (ap Ok c.if-branch.true)),
    )
