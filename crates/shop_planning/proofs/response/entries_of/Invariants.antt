use Rattle.std.proofs.Common.{◌≡◌, ◌++◌, drop, take}
use Rattle.shop_planning.specs.Entries.{entries_from, entries_of}
use Rattle.shop_planning.proofs.response.entries_of.Given as goal

abbrev pub invariant-loop-i : goal.invariant-loop-i
invariant-loop-i l =
    l.list.items ++ entries_from l.sizes l.ranked (take l.i l.shares) (drop l.i l.shares) ≡ entries_of l.sizes l.ranked l.shares
