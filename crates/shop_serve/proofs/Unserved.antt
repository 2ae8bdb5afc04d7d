-- Nothing was served, whatever the fault.
use Rattle.std.proofs.Common.{ℕ, refl}
use Rattle.std.specs.Prelude.{Result, Ok, Err, IfErr}
use Rattle.shop_book.specs.declared.books.Book.{Ghosts}
use Rattle.shop_serve.specs.declared.faults.ServeFault.{ServeFault}
use Rattle.shop_serve.specs.declared.faults.ServeFault.TheVariants as faults
use Rattle.shop_serve.specs.declared.sites.Site.{Site}
use Rattle.shop_serve.specs.Serving.{IsUnserved}
use Rattle.shop_serve.proofs.ServedRequests.{none_served}

module _ (site : Site) {B : Type 0} (book : Ghosts B) (here : B) (count : ℕ) where
  none_left : (fault : ServeFault) → IsUnserved site book here here count fault
  none_left faults.NoMemory = refl
  none_left faults.Port = none_served site book here count
  none_left faults.Moved = none_served site book here count

  pub none_begun : {X : Type 0} (result : Result X ServeFault) → IfErr result (IsUnserved site book here here count)
  none_begun (Ok x) = tt
  none_begun (Err fault) = none_left fault
