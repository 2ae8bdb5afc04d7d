use Rattle.shop_machine.proofs.StaysWellFormed.{imports_kept}
use Rattle.shop_machine.proofs.laws.imports_stay.Goals as goal

pub returns : goal.returns
returns c = imports_kept
