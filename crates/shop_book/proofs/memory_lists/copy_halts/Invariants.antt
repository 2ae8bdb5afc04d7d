use Rattle.std.proofs.Common.{◌≡◌, take}
use Rattle.shop_book.proofs.memory_lists.copy_halts.Given as goal

abbrev pub invariant-loop-row : goal.invariant-loop-row
invariant-loop-row l = l.copy.items ≡ take l.row-index l.halts
