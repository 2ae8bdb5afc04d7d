use Rattle.std.proofs.Common.{◌≡◌, take}
use Rattle.shop_book.proofs.same_entries.are_same.Given as goal

abbrev pub invariant-loop-i : goal.invariant-loop-i
invariant-loop-i l = take l.i l.entries ≡ take l.i l.others
