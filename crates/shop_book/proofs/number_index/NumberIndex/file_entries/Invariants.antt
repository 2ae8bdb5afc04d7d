use Rattle.std.proofs.Common.{take}
use Rattle.shop_book.specs.FiledEntries.{AreEntriesFiled}
use Rattle.shop_book.specs.Filing.{StaysFiled}
use Rattle.shop_book.proofs.number_index.NumberIndex.file_entries.Given as goal

abbrev pub invariant-loop-entry : goal.invariant-loop-entry
invariant-loop-entry l =
    record {
      filed : AreEntriesFiled l.self (take l.entry-index l.entries);
      stays : StaysFiled l.fn.self l.self;
    }
