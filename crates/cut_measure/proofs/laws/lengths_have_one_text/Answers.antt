use Rattle.cut_measure.proofs.LengthTexts.{one_length, printed}
use Rattle.cut_measure.proofs.laws.lengths_have_one_text.Goals as goal

pub returns-clause-one_length : goal.returns-clause-one_length
returns-clause-one_length c = λ text m n p q. one_length text m n p q

pub returns-clause-printed : goal.returns-clause-printed
returns-clause-printed c = λ n small. printed n small
