use Rattle.std.proofs.Common.{refl, ap, ◌∙◌}
use Rattle.shop_records.specs.Content.{demand_at}
use Rattle.shop_store.proofs.LedgerBooks.{counted}
use Rattle.shop_store.proofs.ledger_book.LedgerBookBook.demand.Goals as goal

pub returns-clause-row : goal.returns-clause-row
returns-clause-row g c clean m was = c.demand.ensures.row ∙ ap (λ x. demand_at x c.args.number) (was.1 clean)

pub returns-clause-keeps : goal.returns-clause-keeps
returns-clause-keeps g c = counted g.S.Storage _ _ _ refl refl refl
