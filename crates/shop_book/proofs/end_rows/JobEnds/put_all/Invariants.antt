use Rattle.std.proofs.Common.{take}
use Rattle.shop_book.specs.Ends.{AddEnds}
use Rattle.shop_book.proofs.end_rows.JobEnds.put_all.Given as goal

abbrev pub invariant-loop-entry : goal.invariant-loop-entry
invariant-loop-entry l = AddEnds (take l.entry-index l.entries) l.fn.self l.self
