use Rattle.std.proofs.Common.{refl, ap, ◌∙◌}
use Rattle.shop_records.specs.Content.{begun_at}
use Rattle.shop_store.proofs.LedgerBooks.{counted}
use Rattle.shop_store.proofs.ledger_book.LedgerBookBook.begun.Goals as goal

pub returns-clause-row : goal.returns-clause-row
returns-clause-row g c clean m was = c.begun.ensures ∙ ap (λ x. begun_at x c.args.number) (was.1 clean)

pub returns-clause-keeps : goal.returns-clause-keeps
returns-clause-keeps g c = counted g.S.Storage _ _ _ refl refl refl
