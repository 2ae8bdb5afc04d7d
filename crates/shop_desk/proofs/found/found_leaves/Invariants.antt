use Rattle.std.proofs.Common.{◌≡◌, take}
use Rattle.std.specs.Prelude.{All}
use Rattle.shop_records.specs.Content.{Content, demand_at}
use Rattle.shop_machine.specs.Recounts.{AreDemandsFound, IsNumbered, leaves_in}
use Rattle.shop_book.specs.Kept.{Unchanged}
use Rattle.shop_desk.proofs.found.found_leaves.Given as goal

abbrev pub invariant-loop-leaf : goal.invariant-loop-leaf
invariant-loop-leaf g l =
    record {
      keeps : Unchanged g.B.Book (λ before after. after ≡ before) l.fn.book l.book;
      leaves : leaves_in l.found.items ≡ take l.leaf-index l.leaf-items;
      numbered : All IsNumbered l.found.items;
      found : g.B.Book.has_clean_disk l.book → (m : Content) → g.B.Book.holds l.fn.book m → AreDemandsFound (demand_at m) l.found.items;
    }
