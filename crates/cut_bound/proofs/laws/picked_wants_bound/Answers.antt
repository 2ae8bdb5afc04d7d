use Rattle.cut_bound.proofs.PickedWants.{picked_bound}
use Rattle.cut_bound.proofs.laws.picked_wants_bound.Goals as goal

pub returns : goal.returns
returns c = picked_bound
