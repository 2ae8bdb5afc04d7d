use Rattle.shop_store.proofs.ledger_book.LedgerBookBook.ended.Goals as goal

pub returns : goal.returns
returns g c = record { time = λ clean m was. c.ended.ensures.time clean m was.0 }
