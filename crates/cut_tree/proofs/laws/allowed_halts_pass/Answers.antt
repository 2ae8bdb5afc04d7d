use Rattle.cut_tree.proofs.Tested.{allowed}
use Rattle.cut_tree.proofs.laws.allowed_halts_pass.Goals as goal

pub returns : goal.returns
returns c = λ t halt. allowed t halt
