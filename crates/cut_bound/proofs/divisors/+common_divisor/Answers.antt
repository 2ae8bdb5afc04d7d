use Rattle.std.proofs.Common.{arith}
use Rattle.std.proofs.lemmas.Nat.Gcd.{IsGcd-from_mod, IsGcd-from_zero}
use Rattle.cut_bound.proofs.divisors.+common_divisor.Goals as goal

pub returns-then-b-eq0 : goal.returns-then-b-eq0
returns-then-b-eq0 t c = IsGcd-from_zero c.args.a c.args.b (omega arith)

pub returns-else-b-eq0 : goal.returns-else-b-eq0
returns-else-b-eq0 t c = IsGcd-from_mod c.args.a c.args.b c.common_divisor.result c.common_divisor.ensures
