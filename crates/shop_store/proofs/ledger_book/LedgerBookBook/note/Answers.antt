use Rattle.std.proofs.Common.{refl, ap, ◌∙◌}
use Rattle.shop_records.specs.Content.{note_at}
use Rattle.shop_store.proofs.LedgerBooks.{counted}
use Rattle.shop_store.proofs.ledger_book.LedgerBookBook.note.Goals as goal

pub returns-clause-row : goal.returns-clause-row
returns-clause-row g c clean m was = c.in_ok-row.ensures ∙ ap (λ x. note_at x c.args.code) (was.1 clean)

pub returns-clause-keeps : goal.returns-clause-keeps
returns-clause-keeps g c = counted g.S.Storage _ _ _ refl refl refl
