use Rattle.std.proofs.Common.{subst}
use Rattle.shop_store.proofs.LedgerBooks.{as_reported, memory_reported, read_by}
use Rattle.shop_store.proofs.ledger_book.LedgerBookBook.entries_about.Goals as goal

pub returns-clause-memory : goal.returns-clause-memory
returns-clause-memory g c off = memory_reported _ _ c.count.ensures.answer (c.scan-answer.ensures.memory off)

pub returns-clause-rows : goal.returns-clause-rows
returns-clause-rows g c clean m was =
    let before = subst g.S.Storage.has_clean_disk c.count.ensures.storage clean in
    as_reported _ _ _ c.count.ensures.answer (c.scan-answer.ensures.rows before m was.0 (was.1 (c.scan-answer.ensures.leaves.clean_disk before)))

pub returns-clause-keeps : goal.returns-clause-keeps
returns-clause-keeps g c = read_by g.S.Storage _ _ _ _ c.count.ensures.ledger c.count.ensures.storage c.scan-answer.ensures.leaves c.count.ensures.failures
