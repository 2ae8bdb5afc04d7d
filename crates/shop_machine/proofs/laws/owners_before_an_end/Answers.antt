use Rattle.shop_machine.proofs.OwnersBefore.{before_end}
use Rattle.shop_machine.proofs.laws.owners_before_an_end.Goals as goal

pub returns : goal.returns
returns c = before_end
