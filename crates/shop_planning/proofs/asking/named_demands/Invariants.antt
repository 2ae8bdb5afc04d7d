use Rattle.std.proofs.Common.{◌≡◌, take}
use Rattle.std.specs.Prelude.{map}
use Rattle.shop_records.specs.Content.{Content}
use Rattle.shop_book.specs.Kept.{Unchanged}
use Rattle.shop_planning.specs.Asked.{found_demand}
use Rattle.shop_planning.proofs.asking.named_demands.Given as goal

abbrev pub invariant-loop-number : goal.invariant-loop-number
invariant-loop-number g l =
    record {
      keeps : Unchanged g.B.Book (λ before after. after ≡ before) l.fn.book l.book;
      found : g.B.Book.has_clean_disk l.book → (m : Content) → g.B.Book.holds l.fn.book m → l.found.items ≡ map (found_demand m) (take l.number-index l.numbers);
    }
