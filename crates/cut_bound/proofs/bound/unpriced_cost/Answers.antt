use Rattle.cut_bound.proofs.OrderFaults.{unpriced}
use Rattle.cut_bound.proofs.bound.unpriced_cost.Goals as goal

pub returns : goal.returns
returns c = λ kind k s wants. unpriced kind k s c.args.sizes.now wants c.divisor_of.result c.reported_cost.result c.divisor_of.ensures c.reported_cost.ensures
