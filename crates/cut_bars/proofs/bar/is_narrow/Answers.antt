use Rattle.std.proofs.Common.{◌^◌, arith}
use Rattle.std.proofs.lemmas.Bool.Decides.{nat_tests}
use Rattle.std.proofs.lemmas.Nat.{mul-le}
use Rattle.cut_bars.proofs.bar.is_narrow.Goals as goal

pub overflow_mul-result : goal.overflow_mul-result
overflow_mul-result c = omega (arith, mul-le c.highest_price.result c.args.whole (2 ^ 30) (2 ^ 20) c.highest_price.ensures.small (omega arith))

pub returns-clause-narrow : goal.returns-clause-narrow
returns-clause-narrow c = λ yes. record { price = c.highest_price.result; modest = c.highest_price.ensures.small; each = c.highest_price.ensures.enough; below = grind (arith, nat_tests) }

pub returns-clause-wide : goal.returns-clause-wide
returns-clause-wide c = record {
  price = c.highest_price.result;
  modest = c.highest_price.ensures.small;
  each = c.highest_price.ensures.enough;
  below = omega (arith, mul-le c.highest_price.result c.args.whole (2 ^ 30) (2 ^ 20) c.highest_price.ensures.small (omega arith));
}
