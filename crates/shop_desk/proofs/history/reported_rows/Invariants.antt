use Rattle.std.proofs.Common.{◌≡◌, take}
use Rattle.shop_records.specs.Content.{Content}
use Rattle.shop_records.specs.Lists.{reported_entries}
use Rattle.shop_book.specs.Kept.{Unchanged}
use Rattle.shop_desk.proofs.ReportedEntries.{IsSoFar}
use Rattle.shop_desk.proofs.history.reported_rows.Given as goal

abbrev pub invariant-loop-row : goal.invariant-loop-row
invariant-loop-row g l =
    record {
      keeps : Unchanged g.B.Book (λ before after. after ≡ before) l.fn.book l.book;
      so_far : IsSoFar l.shown.entries l.shown.bytes;
      rows : g.B.Book.has_clean_disk l.book → (m : Content) → g.B.Book.holds l.fn.book m → l.shown.entries ≡ reported_entries m (take l.row-index l.rows);
    }
