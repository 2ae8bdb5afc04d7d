use Rattle.std.proofs.Common.{arith}
use Rattle.cut_bound.proofs.Multiples.{divisor_all, divisor_next, divisor_none}
use Rattle.cut_bound.proofs.divisors.divisor_of.Goals as goal

pub loop-stock-init : goal.loop-stock-init
loop-stock-init c = divisor_none c.args.sizes.now

pub loop-stock-preserved : goal.loop-stock-preserved
loop-stock-preserved c =
    divisor_next c.args.sizes.now c.loop-stock.stock-index c.loop-stock.divisor c.common_divisor-divisor.result c.stock-item.result (omega arith) c.stock-item.is c.common_divisor-divisor.ensures c.loop-stock.invariant

pub returns : goal.returns
returns c = divisor_all c.args.sizes.now c.loop-stock.stock-index c.loop-stock.divisor (omega arith) c.loop-stock.invariant
