use Rattle.std.proofs.Common.{take}
use Rattle.cut_bound.specs.Orders.{IsCommonDivisor}
use Rattle.cut_bound.proofs.divisors.divisor_of.Given as goal

abbrev pub invariant-loop-stock : goal.invariant-loop-stock
invariant-loop-stock l = IsCommonDivisor (take l.stock-index l.sizes) l.divisor
