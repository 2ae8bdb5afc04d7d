use Rattle.shop_store.proofs.mem_book.MemBook.new.Goals as goal

pub returns-clause-content : goal.returns-clause-content
returns-clause-content c = λ i. record (c.new.ensures i) { kept = c.new-2.ensures.kept i; imports = c.new-2.ensures.imports i; halts = c.new-2.ensures.halts i; entries = c.new-2.ensures.entries i }
