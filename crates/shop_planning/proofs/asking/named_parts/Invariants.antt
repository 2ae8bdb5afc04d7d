use Rattle.std.proofs.Common.{◌≡◌, length, take}
use Rattle.std.specs.Prelude.{map}
use Rattle.shop_records.specs.Content.{Content, part_at}
use Rattle.shop_book.specs.Kept.{Unchanged}
use Rattle.shop_planning.proofs.asking.named_parts.Given as goal

abbrev pub invariant-loop-name : goal.invariant-loop-name
invariant-loop-name g l =
    record {
      keeps : Unchanged g.B.Book (λ before after. after ≡ before) l.fn.book l.book;
      each : length l.found.items ≡ l.name-index;
      found : g.B.Book.has_clean_disk l.book → (m : Content) → g.B.Book.holds l.fn.book m → l.found.items ≡ map (part_at m) (take l.name-index l.names);
    }
