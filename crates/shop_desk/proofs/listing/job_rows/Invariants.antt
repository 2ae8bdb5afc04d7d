use Rattle.std.proofs.Common.{◌≡◌, take}
use Rattle.std.specs.Prelude.{filter_map}
use Rattle.shop_records.specs.Content.{Content}
use Rattle.shop_answers.specs.Listing.{job_row_at}
use Rattle.shop_book.specs.Kept.{Unchanged}
use Rattle.shop_desk.proofs.listing.job_rows.Given as goal

abbrev pub invariant-loop-number : goal.invariant-loop-number
invariant-loop-number g l =
    record {
      keeps : Unchanged g.B.Book (λ before after. after ≡ before) l.fn.book l.book;
      rows : g.B.Book.has_clean_disk l.book → (m : Content) → g.B.Book.holds l.fn.book m → l.rows ≡ filter_map (job_row_at m) (take l.number-index l.numbers);
    }
