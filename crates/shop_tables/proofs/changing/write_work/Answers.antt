use Rattle.std.proofs.Common.{◌≡◌, None, false, sym, subst, refl}
use Rattle.std.specs.Prelude.{IfSome}
use Rattle.std.specs.FinMap.{get}
use Rattle.std.specs.FinSet as set
use Rattle.shop_tables.specs.Changing.{with_orders, with_imports}
use Rattle.shop_tables.proofs.Fitting.{demands_fit, import_new}
use Rattle.shop_tables.proofs.InTurn.{of_some, writes_so, writes_then}
use Rattle.shop_tables.proofs.changing.write_work.Goals as goal

pub returns-clause-writes : goal.returns-clause-writes
returns-clause-writes g c =
    let change = c.args.change.now in
    writes_so
    (λ b has. (
      (
        subst (λ os. IfSome change.order (λ code. set.contains os code ≡ false)) (sym has.orders) has.fits.order,
        subst (λ rows. IfSome change.import (λ row. get rows row.order ≡ None)) (sym has.imports) (import_new has.decided change has.fits),
      ),
      demands_fit has.decided change has.fits (with_imports change.import (with_orders change.order b)) has.demands,
    )) (λ b. refl)
    (writes_then (writes_then (of_some with_orders (λ b. refl) (λ x b. refl) change.order c.in_ok-write_some.ensures.writes) (of_some with_imports (λ b. refl) (λ x b. refl) change.import c.in_ok-write_some-2.ensures.writes))
    (rw (c.as_slice.ensures, c.lines_for.ensures) at c.write_demands.ensures.writes))
