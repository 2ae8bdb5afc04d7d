use Rattle.std.proofs.Common.{refl, ap, ◌∙◌}
use Rattle.shop_records.specs.Lists.{due_of}
use Rattle.shop_store.proofs.LedgerBooks.{counted}
use Rattle.shop_store.proofs.ledger_book.LedgerBookBook.due.Goals as goal

pub returns-clause-day : goal.returns-clause-day
returns-clause-day g c clean m was = c.due.ensures ∙ ap (λ x. due_of x c.args.code) (was.1 clean)

pub returns-clause-keeps : goal.returns-clause-keeps
returns-clause-keeps g c = counted g.S.Storage _ _ _ refl refl refl
