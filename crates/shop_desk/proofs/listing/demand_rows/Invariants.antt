use Rattle.std.proofs.Common.{◌≡◌, take}
use Rattle.std.specs.Prelude.{map}
use Rattle.shop_records.specs.Content.{Content}
use Rattle.shop_records.specs.Lists.{demand_row}
use Rattle.shop_book.specs.Kept.{Unchanged}
use Rattle.shop_desk.proofs.listing.demand_rows.Given as goal

abbrev pub invariant-loop-demand : goal.invariant-loop-demand
invariant-loop-demand g l =
    record {
      keeps : Unchanged g.B.Book (λ before after. after ≡ before) l.fn.book l.book;
      rows : g.B.Book.has_clean_disk l.book → (m : Content) → g.B.Book.holds l.fn.book m → l.rows ≡ map (demand_row m) (take l.demand-index l.demands);
    }
