use Rattle.std.proofs.Common.{arith}
use Rattle.shop_planning.proofs.LargestRests.{largest_all, largest_next}
use Rattle.shop_planning.proofs.rests.largest_rest.Goals as goal

pub loop-unit-preserved : goal.loop-unit-preserved
loop-unit-preserved c =
    largest_next c.args.limits c.args.units.now c.loop-unit.unit-index c.loop-unit.largest c.max-largest.result c.in_ok-rest.rest c.unit-item.result (omega arith) c.unit-item.is c.in_ok-rest.ensures (omega arith)
    c.loop-unit.invariant

pub returns : goal.returns
returns c = largest_all c.args.limits c.args.units.now c.loop-unit.unit-index c.loop-unit.largest (omega arith) c.loop-unit.invariant
