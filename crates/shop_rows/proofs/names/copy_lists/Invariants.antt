use Rattle.std.proofs.Common.{◌≡◌, map, take}
use Rattle.shop_rows.proofs.NameLists.{shown}
use Rattle.shop_rows.proofs.names.copy_lists.Given as goal

abbrev pub invariant-loop-list : goal.invariant-loop-list
invariant-loop-list l = map shown l.copies.items ≡ map shown (take l.list-index l.lists)
