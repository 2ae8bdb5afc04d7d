use Rattle.std.proofs.Common.{◌≡◌, take}
use Rattle.std.specs.Prelude.{filter_map}
use Rattle.shop_records.specs.Content.{Content}
use Rattle.shop_records.specs.Lists.{piece_row}
use Rattle.shop_book.specs.Kept.{Unchanged}
use Rattle.shop_desk.proofs.pieces.piece_rows.Given as goal

abbrev pub invariant-loop-part : goal.invariant-loop-part
invariant-loop-part g l =
    record {
      keeps : Unchanged g.B.Book (λ before after. after ≡ before) l.fn.book l.book;
      rows : g.B.Book.has_clean_disk l.book → (m : Content) → g.B.Book.holds l.fn.book m → l.rows ≡ filter_map (piece_row m) (take l.part-index l.parts);
    }
