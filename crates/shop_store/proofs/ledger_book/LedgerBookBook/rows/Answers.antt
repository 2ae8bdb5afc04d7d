use Rattle.shop_store.proofs.ledger_book.LedgerBookBook.rows.Goals as goal

pub returns : goal.returns
returns g c clean m was = was.1 clean
