use Rattle.std.proofs.Common.{◌≤◌, arith, length, subst, take}
use Rattle.std.proofs.lemmas.List.{take_all}
use Rattle.shop_book.specs.FiledEntries.{AreEntriesFiled}
use Rattle.shop_book.proofs.EntriesFiled.{entries_more, entries_stay}
use Rattle.shop_book.proofs.Filed.{stays_then}
use Rattle.shop_book.proofs.number_index.NumberIndex.file_entries.Goals as goal

pub loop-entry-preserved : goal.loop-entry-preserved
loop-entry-preserved c =
    let entries = c.args.entries.now in
    let at = c.loop-entry.entry-index in
    let stays = c.file_entry.ensures.stays in
    record {
      filed =
          entries_more c.file_entry.new.self entries at c.entry-item.result c.loop-entry-test.true c.entry-item.is
          (entries_stay c.loop-entry.self c.file_entry.new.self (take at entries) stays c.loop-entry.invariant.filed) c.in_ok-file_entry.ensures.filed;
      stays = stays_then _ _ _ c.loop-entry.invariant.stays stays;
    }

pub returns-clause-filed : goal.returns-clause-filed
returns-clause-filed c =
    let entries = c.args.entries.now in
    let at = c.loop-entry.entry-index in
    let all : length entries ≤ at = let h = c.loop-entry-test.false in omega (arith, h) in
    subst (AreEntriesFiled c.loop-entry.self) (take_all at entries all) c.loop-entry.invariant.filed
