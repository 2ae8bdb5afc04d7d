use Rattle.std.proofs.Common.{◌≡◌, take}
use Rattle.shop_records.specs.Content.{Content}
use Rattle.shop_answers.specs.Listing.{AreOrderRows}
use Rattle.shop_book.specs.Kept.{Unchanged}
use Rattle.shop_desk.proofs.listing.order_rows.Given as goal

abbrev pub invariant-loop-order : goal.invariant-loop-order
invariant-loop-order g l =
    record {
      keeps : Unchanged g.B.Book (λ before after. after ≡ before) l.fn.book l.book;
      rows : g.B.Book.has_clean_disk l.book → (m : Content) → g.B.Book.holds l.fn.book m → AreOrderRows m (take l.order-index l.orders) l.rows;
    }
