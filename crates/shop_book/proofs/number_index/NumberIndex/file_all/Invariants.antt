use Rattle.std.proofs.Common.{take}
use Rattle.shop_book.specs.Filing.{StaysFiled}
use Rattle.shop_book.specs.Pieces.{AreFiled}
use Rattle.shop_book.proofs.number_index.NumberIndex.file_all.Given as goal

abbrev pub invariant-loop-part : goal.invariant-loop-part
invariant-loop-part l =
    record {
      filed : AreFiled l.self (take l.part-index l.parts);
      stays : StaysFiled l.fn.self l.self;
    }
