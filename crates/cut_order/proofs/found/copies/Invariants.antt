use Rattle.std.proofs.Common.{◌≡◌, take}
use Rattle.cut_order.proofs.found.copies.Given as goal

abbrev pub invariant-loop-unit : goal.invariant-loop-unit
invariant-loop-unit l = l.copies.items ≡ take l.unit-index l.units
