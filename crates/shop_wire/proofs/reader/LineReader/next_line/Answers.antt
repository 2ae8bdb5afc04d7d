use Rattle.std.proofs.Common.{◌+◌, ◌++◌, Ok, nat_eq, sym, ap, subst, ◌∙◌}
use Rattle.std.specs.Io.KnownBytes.{prepend_known}
use Rattle.shop_wire.specs.Lines.{pending}
use Rattle.shop_wire.specs.Streams.{CountTogether, TookBytes, work}
use Rattle.shop_wire.proofs.Reading.{fed_part, open_part, refilled, at_the_end, last_part, nothing_left, together_more, took_more, kept_none, kept_short, some_got, none_got, same_ok, work_on}
use Rattle.shop_wire.proofs.reader.LineReader.next_line.Goals as goal

pub returns-then-fed-clause-line : goal.returns-then-fed-clause-line
returns-then-fed-clause-line g c =
    let old = c.args.self.now in
    let mid = c.loop-fed.self in
    let new = c.take_part.new.self in
    let so_far = c.loop-fed.invariant in
    let part = c.in-Ok.ensures.fed (ap Ok c.if-fed.true) in
    let line = fed_part (prepend_known (pending old.buffer old.start old.end) (g.S.Source.left c.args.source.now)) (g.S.Source.left c.loop-fed.source)
    (pending mid.buffer mid.start mid.end) part.0 (pending new.buffer new.start new.end) c.loop-fed.line.items c.take_part.new.line.items so_far.0 so_far.1 part.1 part.2 part.3 in
    λ _. (so_far.0 ++ part.0, line.0, line.1)

pub returns-then-not-branch-clause-line : goal.returns-then-not-branch-clause-line
returns-then-not-branch-clause-line g c =
    let old = c.args.self.now in
    let mid = c.loop-fed.self in
    let new = c.refill.new.self in
    let p = pending mid.buffer mid.start mid.end in
    let before = prepend_known (pending old.buffer old.start old.end) (g.S.Source.left c.args.source.now) in
    let left = g.S.Source.left c.loop-fed.source in
    let so_far = c.loop-fed.invariant in
    let unfed = c.in-Ok.ensures.open (ap Ok c.if-fed.false) in
    let none = c.in_ok-refill.ensures.none (ap Ok c.if-not-branch.true) in
    let whole = open_part before left p c.loop-fed.line.items c.take_part.new.line.items so_far.0 so_far.1 unfed.0 unfed.2 in
    let all = at_the_end before left (g.S.Source.left c.refill.new.source) (pending new.buffer new.start new.end) c.take_part.new.line.items (so_far.0 ++ p) whole none.1 none.3 in
    λ is. (so_far.0 ++ p, all.kept, last_part before (g.S.Source.left c.refill.new.source) (pending new.buffer new.start new.end) c.take_part.new.line.items (so_far.0 ++ p) all none.3 none.0 (some_got c.take_part.new.line.items (so_far.0 ++ p) c.is_empty.result all.kept (c.is_empty.ensures ∙ ap (λ n. nat_eq n 0) c.take_part.new.line.ok.0) (same_ok _ _ is)))

pub returns-then-not-branch-clause-none : goal.returns-then-not-branch-clause-none
returns-then-not-branch-clause-none g c =
    let old = c.args.self.now in
    let mid = c.loop-fed.self in
    let new = c.refill.new.self in
    let p = pending mid.buffer mid.start mid.end in
    let before = prepend_known (pending old.buffer old.start old.end) (g.S.Source.left c.args.source.now) in
    let left = g.S.Source.left c.loop-fed.source in
    let so_far = c.loop-fed.invariant in
    let unfed = c.in-Ok.ensures.open (ap Ok c.if-fed.false) in
    let none = c.in_ok-refill.ensures.none (ap Ok c.if-not-branch.true) in
    let whole = open_part before left p c.loop-fed.line.items c.take_part.new.line.items so_far.0 so_far.1 unfed.0 unfed.2 in
    let all = at_the_end before left (g.S.Source.left c.refill.new.source) (pending new.buffer new.start new.end) c.take_part.new.line.items (so_far.0 ++ p) whole none.1 none.3 in
    λ is. nothing_left before (g.S.Source.left c.refill.new.source) (pending new.buffer new.start new.end) c.take_part.new.line.items (so_far.0 ++ p) all none.3 none.0 (kept_none c.take_part.new.line.items (so_far.0 ++ p) all.kept (none_got c.take_part.new.line.items c.is_empty.result (c.is_empty.ensures ∙ ap (λ n. nat_eq n 0) c.take_part.new.line.ok.0) (same_ok _ _ is)))

pub loop-fed-preserved : goal.loop-fed-preserved
loop-fed-preserved g c =
    let old = c.args.self.now in
    let mid = c.loop-fed.self in
    let taken = c.take_part.new.self in
    let new = c.refill.new.self in
    let p = pending mid.buffer mid.start mid.end in
    let before = prepend_known (pending old.buffer old.start old.end) (g.S.Source.left c.args.source.now) in
    let left = g.S.Source.left c.loop-fed.source in
    let so_far = c.loop-fed.invariant in
    let unfed = c.in-Ok.ensures.open (ap Ok c.if-fed.false) in
    let more = c.in_ok-refill.ensures.more (ap Ok c.if-not-branch.false) in
    let whole = open_part before left p c.loop-fed.line.items c.take_part.new.line.items so_far.0 so_far.1 unfed.0 unfed.2 in (
      so_far.0 ++ p,
      refilled before left (g.S.Source.left c.refill.new.source) (pending new.buffer new.start new.end) c.take_part.new.line.items (so_far.0 ++ p) whole more.0,
      c.refill.ensures.most,
      (λ ended. absurd (cc (sym more.1 ∙ ended))),
      (λ _.
          let was = so_far.4 (sym c.in-Ok.ensures.ended ∙ more.4) in
          (was.0, took_more old.reads mid.reads new.reads (g.S.Source.left c.args.source.now) left (g.S.Source.left c.refill.new.source) was.1 (subst (λ r. TookBytes r left new.reads (g.S.Source.left c.refill.new.source)) c.in-Ok.ensures.reads more.5))),
      together_more old.reads mid.reads new.reads (g.S.Source.reads c.args.source.now) (g.S.Source.reads c.loop-fed.source) (g.S.Source.reads c.refill.new.source) so_far.5
          (subst (λ r. CountTogether r (g.S.Source.reads c.loop-fed.source) new.reads (g.S.Source.reads c.refill.new.source)) c.in-Ok.ensures.reads c.refill.ensures.together),
      c.in_ok-refill.ensures.failures ∙ so_far.6,
      work_on mid.reads new.reads (work old.reads (pending old.buffer old.start old.end)) p (pending new.buffer new.start new.end) so_far.0 (more.2 ∙ ap (λ n. n + 1) c.in-Ok.ensures.reads) c.refill.ensures.most more.3 so_far.7,
      kept_short c.take_part.new.line.items (so_far.0 ++ p) whole.kept,
    )
