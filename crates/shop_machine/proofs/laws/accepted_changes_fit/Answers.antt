use Rattle.shop_machine.proofs.StaysWellFormed.{fits_accepted, reports_accepted, well_formed_after, agrees}
use Rattle.shop_machine.proofs.laws.accepted_changes_fit.Goals as goal

pub returns : goal.returns
returns c = record { fits = fits_accepted; reported = reports_accepted; well_formed = well_formed_after; agrees = agrees }
