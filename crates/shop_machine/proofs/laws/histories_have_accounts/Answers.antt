use Rattle.shop_machine.proofs.Owners.{account_of}
use Rattle.shop_machine.proofs.StaysWellFormed.{gives_well_formed}
use Rattle.shop_machine.proofs.laws.histories_have_accounts.Goals as goal

pub returns : goal.returns
returns c = record { well_formed = gives_well_formed; account = account_of }
