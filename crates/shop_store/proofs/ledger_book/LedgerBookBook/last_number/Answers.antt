use Rattle.std.proofs.Common.{subst}
use Rattle.shop_store.proofs.LedgerBooks.{as_reported, read_by, sure_reported}
use Rattle.shop_store.proofs.ledger_book.LedgerBookBook.last_number.Goals as goal

pub returns-clause-sure : goal.returns-clause-sure
returns-clause-sure g c off = sure_reported _ _ c.count.ensures.answer (c.last_number-answer.ensures.sure off)

pub returns-clause-number : goal.returns-clause-number
returns-clause-number g c clean m was = as_reported _ _ _ c.count.ensures.answer (c.last_number-answer.ensures.number (subst g.S.Storage.has_clean_disk c.count.ensures.storage clean) m was.0)

pub returns-clause-keeps : goal.returns-clause-keeps
returns-clause-keeps g c = read_by g.S.Storage _ _ _ _ c.count.ensures.ledger c.count.ensures.storage c.last_number-answer.ensures.leaves c.count.ensures.failures
