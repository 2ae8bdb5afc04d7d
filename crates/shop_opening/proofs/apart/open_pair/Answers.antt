use Rattle.std.proofs.Common.{◌≡◌, List, ℕ, ap₂, sym, subst}
use Rattle.std.specs.Prelude.{IfOk}
use Rattle.sqlite_wal.specs.Recovery.{Image}
use Rattle.shop_opening.specs.Openings.{IsOpenedOn, pair_image}
use Rattle.shop_opening.proofs.apart.open_pair.Goals as goal

pub returns-in-Ok : goal.returns-in-Ok
returns-in-Ok c =
    subst (λ (image : Image). IfOk c.open_over.result (λ book. IsOpenedOn image book.storage.conn book.storage.remembered book.ledger book.failures))
    (ap₂ pair_image c.in-Ok.ensures.logged c.in-Ok.ensures.stored) c.open_over.ensures
