use Rattle.std.proofs.Common.{refl, ap, ◌∙◌}
use Rattle.shop_records.specs.Content.{parts_named}
use Rattle.shop_store.proofs.LedgerBooks.{counted}
use Rattle.shop_store.proofs.ledger_book.LedgerBookBook.parts_named.Goals as goal

pub returns-clause-rows : goal.returns-clause-rows
returns-clause-rows g c clean m was = c.in_ok-rows.ensures ∙ ap (λ x. parts_named x c.args.act) (was.1 clean)

pub returns-clause-keeps : goal.returns-clause-keeps
returns-clause-keeps g c = counted g.S.Storage _ _ _ refl refl refl
