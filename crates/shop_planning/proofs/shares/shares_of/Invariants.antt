use Rattle.std.proofs.Common.{◌≡◌, ◌++◌, drop, map, take}
use Rattle.shop_planning.specs.Shares.{are_alike, share_of, shares_of}
use Rattle.shop_planning.specs.Stock.{firsts}
use Rattle.shop_planning.proofs.shares.shares_of.Given as goal

abbrev pub invariant-loop-i : goal.invariant-loop-i
invariant-loop-i l =
    l.shares.items ++ map (share_of l.units) (firsts are_alike (take l.i l.units) (drop l.i l.units)) ≡ shares_of l.units
