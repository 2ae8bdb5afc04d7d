use Rattle.shop_planning.proofs.LargestRests.{IsLargestSoFar}
use Rattle.shop_planning.proofs.rests.largest_rest.Given as goal

abbrev pub invariant-loop-unit : goal.invariant-loop-unit
invariant-loop-unit l = IsLargestSoFar l.limits l.units l.unit-index l.largest
