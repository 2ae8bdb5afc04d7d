use Rattle.std.proofs.Common.{◌≡◌, List, map, drop}
use Rattle.shop_book.specs.Ledgers.{content_in}
use Rattle.shop_store.specs.Loading.{FitInTurn, with_each}
use Rattle.shop_store.proofs.loadable.load_each.Given as goal

abbrev pub invariant-loop-row : goal.invariant-loop-row
invariant-loop-row g l =
    (values : List g.row.T.Denot) → l.rows ≡ map g.T.Loadable.row_of values → FitInTurn g.T.Loadable.fits g.T.Loadable.put values (content_in l.fn.ledger)
    → FitInTurn g.T.Loadable.fits g.T.Loadable.put (drop l.row-index values) (content_in l.ledger)
    × (with_each g.T.Loadable.put (drop l.row-index values) (content_in l.ledger) ≡ with_each g.T.Loadable.put values (content_in l.fn.ledger))
