use Rattle.shop_bookings.proofs.Booked.{booked_together}
use Rattle.shop_bookings.proofs.laws.reported_plans_are_reserved.Goals as goal

pub returns : goal.returns
returns c = λ texts old new q instance reply messages answers well_formed asks answer by run. booked_together texts old well_formed q instance asks reply answer messages by new answers run
