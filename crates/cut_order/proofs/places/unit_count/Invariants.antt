use Rattle.std.proofs.Common.{◌≡◌, ◌*◌, ◌≤◌, ◌^◌, take}
use Rattle.cut_order.specs.Places as places
use Rattle.cut_order.proofs.places.unit_count.Given as goal

abbrev pub invariant-loop-unit : goal.invariant-loop-unit
invariant-loop-unit l = record { sum : l.count ≡ places.unit_count (take l.unit-index l.units); few : l.count ≤ l.unit-index * 2 ^ 32 }
