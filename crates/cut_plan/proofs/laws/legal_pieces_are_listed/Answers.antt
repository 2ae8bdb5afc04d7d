use Rattle.cut_wants.specs.Legal.{IsWantedPiece}
use Rattle.cut_tree.proofs.ListedLeaves.{all_listed}
use Rattle.cut_plan.proofs.laws.legal_pieces_are_listed.Goals as goal

pub returns : goal.returns
returns c = λ wants k w h t is. all_listed (IsWantedPiece wants) t w h k is
