use Rattle.std.proofs.Common.{◌≡◌, ◌++◌, drop, map, take}
use Rattle.shop_planning.specs.Stock.{are_alike, firsts, part_size, part_sizes}
use Rattle.shop_planning.proofs.stock.part_sizes.Given as goal

abbrev pub invariant-loop-i : goal.invariant-loop-i
invariant-loop-i l =
    l.sizes.items ++ map (part_size l.parts) (firsts are_alike (take l.i l.parts) (drop l.i l.parts)) ≡ part_sizes l.parts
