use Rattle.cut_tree.proofs.ReadBack.{spells_itself}
use Rattle.cut_tree.proofs.laws.plans_are_read_back.Goals as goal

pub returns : goal.returns
returns c = λ p is. spells_itself p is
