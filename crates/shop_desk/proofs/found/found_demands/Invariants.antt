use Rattle.std.proofs.Common.{◌≡◌, take}
use Rattle.shop_records.specs.Content.{Content, demand_at}
use Rattle.shop_answers.specs.Planning.{AreFound, numbers_in}
use Rattle.shop_book.specs.Kept.{Unchanged}
use Rattle.shop_desk.proofs.found.found_demands.Given as goal

abbrev pub invariant-loop-number : goal.invariant-loop-number
invariant-loop-number g l =
    record {
      keeps : Unchanged g.B.Book (λ before after. after ≡ before) l.fn.book l.book;
      numbers : numbers_in l.found ≡ take l.number-index l.numbers;
      found : g.B.Book.has_clean_disk l.book → (m : Content) → g.B.Book.holds l.fn.book m → AreFound (demand_at m) l.found;
    }
