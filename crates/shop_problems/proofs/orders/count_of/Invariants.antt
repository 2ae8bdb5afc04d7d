use Rattle.std.proofs.Common.{◌≡◌, ◌*◌, ◌^◌, ◌≤◌, take}
use Rattle.shop_problems.specs.Orders.{count_of}
use Rattle.shop_problems.proofs.orders.count_of.Given as goal

abbrev pub invariant-loop-unit : goal.invariant-loop-unit
invariant-loop-unit l = record { sum : l.count ≡ count_of (take l.unit-index l.units); few : l.count ≤ l.unit-index * 2 ^ 32 }
