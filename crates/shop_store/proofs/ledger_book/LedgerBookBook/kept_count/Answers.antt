use Rattle.shop_store.proofs.LedgerBooks.{read_by, sure_reported}
use Rattle.shop_store.proofs.ledger_book.LedgerBookBook.kept_count.Goals as goal

pub returns-clause-sure : goal.returns-clause-sure
returns-clause-sure g c off = sure_reported _ _ c.count.ensures.answer (c.kept_count-answer.ensures.sure off)

pub returns-clause-keeps : goal.returns-clause-keeps
returns-clause-keeps g c = read_by g.S.Storage _ _ _ _ c.count.ensures.ledger c.count.ensures.storage c.kept_count-answer.ensures.leaves c.count.ensures.failures
