use Rattle.shop_machine.proofs.StaysWellFormed.{fits_entered, well_formed_entered}
use Rattle.shop_machine.proofs.laws.entered_changes_fit.Goals as goal

pub returns : goal.returns
returns c = record { fits = fits_entered; well_formed = well_formed_entered }
