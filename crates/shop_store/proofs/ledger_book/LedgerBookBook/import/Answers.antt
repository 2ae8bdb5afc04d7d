use Rattle.std.proofs.Common.{subst}
use Rattle.shop_store.proofs.LedgerBooks.{as_reported, memory_reported, read_by}
use Rattle.shop_store.proofs.ledger_book.LedgerBookBook.import.Goals as goal

pub returns-clause-memory : goal.returns-clause-memory
returns-clause-memory g c off = memory_reported _ _ c.count.ensures.answer (c.import-answer.ensures.memory off)

pub returns-clause-row : goal.returns-clause-row
returns-clause-row g c clean m was = as_reported _ _ _ c.count.ensures.answer (c.import-answer.ensures.row (subst g.S.Storage.has_clean_disk c.count.ensures.storage clean) m was.0)

pub returns-clause-keeps : goal.returns-clause-keeps
returns-clause-keeps g c = read_by g.S.Storage _ _ _ _ c.count.ensures.ledger c.count.ensures.storage c.import-answer.ensures.leaves c.count.ensures.failures
