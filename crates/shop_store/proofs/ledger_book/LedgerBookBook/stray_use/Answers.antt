use Rattle.shop_store.proofs.LedgerBooks.{memory_reported, read_by}
use Rattle.shop_store.proofs.ledger_book.LedgerBookBook.stray_use.Goals as goal

pub returns-clause-memory : goal.returns-clause-memory
returns-clause-memory g c off = memory_reported _ _ c.count.ensures.answer (c.stray_use-answer.ensures.memory off)

pub returns-clause-keeps : goal.returns-clause-keeps
returns-clause-keeps g c = read_by g.S.Storage _ _ _ _ c.count.ensures.ledger c.count.ensures.storage c.stray_use-answer.ensures.leaves c.count.ensures.failures
