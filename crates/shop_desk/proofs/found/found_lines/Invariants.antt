use Rattle.std.proofs.Common.{◌≡◌, take}
use Rattle.shop_records.specs.Content.{Content, material_at}
use Rattle.shop_machine.specs.Ordering.{AreMaterialsFound, lines_in}
use Rattle.shop_book.specs.Kept.{Unchanged}
use Rattle.shop_desk.proofs.found.found_lines.Given as goal

abbrev pub invariant-loop-line : goal.invariant-loop-line
invariant-loop-line g l =
    record {
      keeps : Unchanged g.B.Book (λ before after. after ≡ before) l.fn.book l.book;
      lines : lines_in l.found.items ≡ take l.line-index l.lines;
      found : g.B.Book.has_clean_disk l.book → (m : Content) → g.B.Book.holds l.fn.book m → AreMaterialsFound (material_at m) l.found.items;
    }
