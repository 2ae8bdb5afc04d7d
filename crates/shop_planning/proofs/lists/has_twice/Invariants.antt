use Rattle.std.proofs.Common.{◌≡◌, drop}
use Rattle.shop_planning.specs.Lists.{has_twice}
use Rattle.shop_planning.proofs.lists.has_twice.Given as goal

abbrev pub invariant-loop-i : goal.invariant-loop-i
invariant-loop-i g l = has_twice g.T.PartialEq.eq l.items ≡ has_twice g.T.PartialEq.eq (drop l.i l.items)
