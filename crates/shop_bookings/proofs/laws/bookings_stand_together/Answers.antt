use Rattle.shop_bookings.proofs.Together.{stand_together}
use Rattle.shop_bookings.proofs.laws.bookings_stand_together.Goals as goal

pub returns : goal.returns
returns c = λ texts old new bookings answers well_formed are run. stand_together texts old new bookings answers well_formed are run
