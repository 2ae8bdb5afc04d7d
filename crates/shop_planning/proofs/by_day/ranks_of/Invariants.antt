use Rattle.std.proofs.Common.{◌≡◌, take}
use Rattle.shop_records.specs.Content.{Content}
use Rattle.shop_book.specs.Kept.{Unchanged}
use Rattle.shop_planning.specs.ByDay.{HaveRanks}
use Rattle.shop_planning.proofs.by_day.ranks_of.Given as goal

abbrev pub invariant-loop-row : goal.invariant-loop-row
invariant-loop-row g l =
    record {
      keeps : Unchanged g.B.Book (λ before after. after ≡ before) l.fn.book l.book;
      ranks : g.B.Book.has_clean_disk l.book → (m : Content) → g.B.Book.holds l.fn.book m → HaveRanks m (take l.row-index l.rows) l.ranks.items;
    }
