use Rattle.cut_tree.proofs.LeafCounts.{counted}
use Rattle.cut_tree.proofs.laws.leaves_are_counted.Goals as goal

pub returns : goal.returns
returns c = λ t w h k d. counted t w h k d
