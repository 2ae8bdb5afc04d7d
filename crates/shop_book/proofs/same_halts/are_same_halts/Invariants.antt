use Rattle.std.proofs.Common.{◌≡◌, take}
use Rattle.shop_book.proofs.same_halts.are_same_halts.Given as goal

abbrev pub invariant-loop-i : goal.invariant-loop-i
invariant-loop-i l = take l.i l.halts ≡ take l.i l.others
