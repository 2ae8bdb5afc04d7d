use Rattle.cut_bound.proofs.HeldPieces.{fitting, held}
use Rattle.cut_bound.proofs.laws.fitting_pieces_are_held.Goals as goal

pub returns-clause-held : goal.returns-clause-held
returns-clause-held c = held

pub returns-clause-fitting : goal.returns-clause-fitting
returns-clause-fitting c = fitting
