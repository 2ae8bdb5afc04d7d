use Rattle.std.proofs.Common.{refl}
use Rattle.cut_bound.specs.Bounds.{sizes_of}
use Rattle.cut_bound.proofs.PaidWorths.{bound_holds, units_of_one}
use Rattle.cut_bound.proofs.OrderFaults.{greatest_holds}
use Rattle.cut_bound.proofs.laws.priced_bound.Goals as goal

pub returns-clause-bound : goal.returns-clause-bound
returns-clause-bound c = λ wants k bounded t own most price. bound_holds wants k bounded t own most price

pub returns-clause-greatest : goal.returns-clause-greatest
returns-clause-greatest c = λ wants k bounded cost own most greatest. greatest_holds wants k (sizes_of bounded) bounded cost own most refl greatest

pub returns-clause-units : goal.returns-clause-units
returns-clause-units c = λ t worth cost one none some greatest. units_of_one t worth cost one none some greatest
