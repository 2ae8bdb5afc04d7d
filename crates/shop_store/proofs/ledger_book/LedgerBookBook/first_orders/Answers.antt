use Rattle.std.proofs.Common.{refl, ap, ◌∙◌}
use Rattle.shop_records.specs.Lists.{orders_after}
use Rattle.std.specs.Prelude.{take}
use Rattle.shop_store.proofs.LedgerBooks.{counted}
use Rattle.shop_store.proofs.ledger_book.LedgerBookBook.first_orders.Goals as goal

pub returns-clause-rows : goal.returns-clause-rows
returns-clause-rows g c clean m was = c.in_ok-codes.ensures ∙ ap (λ x. take c.args.most (orders_after x c.args.after)) (was.1 clean)

pub returns-clause-keeps : goal.returns-clause-keeps
returns-clause-keeps g c = counted g.S.Storage _ _ _ refl refl refl
