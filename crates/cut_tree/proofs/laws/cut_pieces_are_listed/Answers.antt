use Rattle.std.proofs.Common.{IsTrue}
use Rattle.cut_tree.proofs.ListedLeaves.{all_listed}
use Rattle.cut_tree.proofs.laws.cut_pieces_are_listed.Goals as goal

pub returns : goal.returns
returns c = λ t w h k legal is. all_listed (λ d turned a b. IsTrue (legal d turned a b)) t w h k is
