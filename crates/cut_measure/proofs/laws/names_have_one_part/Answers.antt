use Rattle.cut_measure.proofs.NameTexts.{one_name}
use Rattle.cut_measure.proofs.laws.names_have_one_part.Goals as goal

pub returns : goal.returns
returns c = λ m n p q same. one_name m n p q same
