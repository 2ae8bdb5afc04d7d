use Rattle.cut_bound.proofs.Multiples.{multiple_bound}
use Rattle.cut_bound.proofs.laws.bounds_are_multiples.Goals as goal

pub returns : goal.returns
returns c = multiple_bound
