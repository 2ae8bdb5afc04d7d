use Rattle.cut_tree.proofs.OneLaidList.{one_laid, laid_few, laid_all}
use Rattle.cut_tree.proofs.laws.pieces_are_laid.Goals as goal

pub returns-clause-one_list : goal.returns-clause-one_list
returns-clause-one_list c = λ t w h k outcome rows more p q. one_laid t w h k outcome rows more p q

pub returns-clause-made : goal.returns-clause-made
returns-clause-made c = λ t w h k rows shaped wide high p d. laid_all t w h k rows d shaped wide high p

pub returns-clause-at_most : goal.returns-clause-at_most
returns-clause-at_most c = λ t w h k outcome rows shaped wide high p d. laid_few t w h k outcome rows d shaped wide high p
