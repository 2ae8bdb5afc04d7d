use Rattle.shop_store.proofs.mem_book.MemBook.copy.Goals as goal

pub returns-clause-content : goal.returns-clause-content
returns-clause-content c = λ i. record (c.in_ok-ledger.ensures i) { kept = c.in_ok-storage.ensures.kept i; imports = c.in_ok-storage.ensures.imports i; halts = c.in_ok-storage.ensures.halts i; entries = c.in_ok-storage.ensures.entries i }
