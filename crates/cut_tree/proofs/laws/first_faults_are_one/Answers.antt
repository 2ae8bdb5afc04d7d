use Rattle.cut_tree.proofs.OneFault.{one_fault}
use Rattle.cut_tree.proofs.laws.first_faults_are_one.Goals as goal

pub returns : goal.returns
returns c = λ text w h k m n a b p q f g. one_fault text w h k m n a b p q f g
