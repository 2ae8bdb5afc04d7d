use Rattle.shop_store.proofs.Renewals.{left_renewal_is_found}
use Rattle.shop_store.proofs.reopening.left_renewals_are_found.Goals as goal

pub returns : goal.returns
returns g c old after m up was clean survives it less numbered sound left may files seen new opened found =
    left_renewal_is_found old after m up was clean survives it less numbered sound left may files seen new opened found g.met.D.Disk.seen_may_stay
