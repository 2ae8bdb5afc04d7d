use Rattle.std.proofs.Common.{◌≡◌, ◌+◌, ◌∙◌, rules, subst, sym}
use Rattle.std.specs.Io.KnownBytes.{Appends}
use Rattle.std.proofs.KnownBytes.{Appends-trans}
use Rattle.shop_audit.specs.Lines.{line_at, lines}
use Rattle.shop_audit.proofs.Steps.{looked}
use Rattle.shop_audit.proofs.Written.{behind_err, one_later, part_of_lines}
use Rattle.shop_audit.proofs.lines.write_lines.Goals as goal

pub loop-done-preserved : goal.loop-done-preserved
loop-done-preserved g c =
    let before = c.loop-done.invariant in
    let one = c.in_ok-write_entry.ensures in
    let old = g.W.Sink.held c.args.sink.now in
    let mid = g.W.Sink.held c.loop-done.sink in
    let new = g.W.Sink.held c.write_entry.new.sink in
    record {
      written = λ clean m held.
          let was = one.keeps.clean_disk clean in
          subst (Appends old new) (sym (one_later m c.args.after c.loop-done.done))
          (Appends-trans old mid new (lines m c.args.after c.loop-done.done) (line_at m (c.args.after + c.loop-done.done + 1)) (before.written was m held) (one.ok clean m (before.keeps.stays was m held)));
      worked = one.worked ∙ before.worked;
      keeps = looked g.B.Book c.args.book.now c.loop-done.book c.write_entry.new.book before.keeps one.keeps;
    }

pub returns-in_err-write_entry-clause-part : goal.returns-in_err-write_entry-clause-part
returns-in_err-write_entry-clause-part g c =
    λ clean m held.
    let before = c.loop-done.invariant in
    let one = c.in_err-write_entry.ensures in
    let was = one.keeps.clean_disk clean in
    behind_err c.from_residual.result
    (part_of_lines m c.args.after c.loop-done.done c.args.count (search rules) (g.W.Sink.held c.args.sink.now) (g.W.Sink.held c.loop-done.sink) (g.W.Sink.held c.write_entry.new.sink)
    (before.written was m held) (one.part clean m (before.keeps.stays was m held)))

pub returns-clause-ok : goal.returns-clause-ok
returns-clause-ok g c =
    λ clean m held.
    let end : c.loop-done.done ≡ c.args.count = search rules in
    subst (λ n. Appends (g.W.Sink.held c.args.sink.now) (g.W.Sink.held c.loop-done.sink) (lines m c.args.after n)) end (c.loop-done.invariant.written clean m held)
