use Rattle.shop_machine.proofs.SharedCells.{shared_as_laid}
use Rattle.shop_machine.proofs.laws.shared_cells_are_laid.Goals as goal

pub returns : goal.returns
returns c = shared_as_laid
