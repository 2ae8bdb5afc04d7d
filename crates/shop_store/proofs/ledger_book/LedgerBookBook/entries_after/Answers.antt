use Rattle.std.proofs.Common.{subst}
use Rattle.shop_store.proofs.LedgerBooks.{as_reported, memory_reported, read_by}
use Rattle.shop_store.proofs.ledger_book.LedgerBookBook.entries_after.Goals as goal

pub returns-clause-memory : goal.returns-clause-memory
returns-clause-memory g c off = memory_reported _ _ c.count.ensures.answer (c.entries_after-answer.ensures.memory off)

pub returns-clause-rows : goal.returns-clause-rows
returns-clause-rows g c clean m was = as_reported _ _ _ c.count.ensures.answer (c.entries_after-answer.ensures.rows (subst g.S.Storage.has_clean_disk c.count.ensures.storage clean) m was.0)

pub returns-clause-keeps : goal.returns-clause-keeps
returns-clause-keeps g c = read_by g.S.Storage _ _ _ _ c.count.ensures.ledger c.count.ensures.storage c.entries_after-answer.ensures.leaves c.count.ensures.failures
