use Rattle.std.proofs.Common.{Some, take}
use Rattle.shop_book.specs.FiledEntries.{IsUnderAny}
use Rattle.shop_book.specs.Filing.{PassesNone}
use Rattle.shop_book.proofs.number_index.NumberIndex.next_for_any.Given as goal

abbrev pub invariant-loop-act : goal.invariant-loop-act
invariant-loop-act l = PassesNone (IsUnderAny l.self (take l.act-index l.acts)) (Some l.last) l.first
