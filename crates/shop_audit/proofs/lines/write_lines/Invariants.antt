use Rattle.std.proofs.Common.{◌≡◌}
use Rattle.std.specs.Io.KnownBytes.{Appends}
use Rattle.shop_records.specs.Content.{Content}
use Rattle.shop_audit.specs.Compared.{IsLookedAt}
use Rattle.shop_audit.specs.Lines.{lines}
use Rattle.shop_audit.proofs.lines.write_lines.Given as goal

abbrev pub invariant-loop-done : goal.invariant-loop-done
invariant-loop-done g l =
    record {
      written : g.B.Book.has_clean_disk l.book → (m : Content) → g.B.Book.holds l.fn.book m → Appends (g.W.Sink.held l.fn.sink) (g.W.Sink.held l.sink) (lines m l.after l.done);
      worked : g.W.Sink.failed l.sink ≡ g.W.Sink.failed l.fn.sink;
      keeps : IsLookedAt g.B.Book l.fn.book l.book;
    }
