-- What a book in SQL tables holds, and what it makes of the tables' answers.
use Rattle.std.specs.Prelude.{◌≡◌, Result, Ok, Err}
use Rattle.shop_tables.specs.declared.adopting.AdoptFault.{AdoptFault}
use Rattle.shop_tables.specs.declared.adopting.AdoptFault.TheVariants as adopt
use Rattle.shop_statements.specs.declared.faults.TableFault.{TableFault}
use Rattle.shop_statements.specs.declared.faults.TableFault.TheVariants as table
use Rattle.shop_book.specs.declared.books.BookFault.{BookFault}
use Rattle.shop_book.specs.declared.books.BookFault.TheVariants.{NoMemory, Store, WrongVersion}
use Rattle.shop_book.specs.Ledgers.{bare, content_in}
use Rattle.shop_book.specs.declared.ledger.Ledger.{Ledger}
use Rattle.sqlite.specs.State.{State, HasCleanDisk}
use Rattle.shop_records.specs.Content.{Content}
use Rattle.shop_store.specs.Storing.{HoldsTables}
use Rattle.shop_store.specs.declared.remembered.Remembered.{Remembered}

-- The connection holds the content and, unless the disk failed, this is what is remembered of its entries, and the ledger holds
-- all of it except the long texts and the entries.
abbrev pub HoldsLedger : State → Remembered → Ledger → Content → Type 0
HoldsLedger s it ledger m = HoldsTables s it m × (HasCleanDisk s → content_in ledger ≡ bare m)

-- the tables' fault as the book's
abbrev pub book_fault : TableFault → BookFault
book_fault table.NoMemory = NoMemory
book_fault table.Store = Store

-- the fault of an adopt as the book's
abbrev pub adopt_fault : AdoptFault → BookFault
adopt_fault adopt.NoMemory = NoMemory
adopt_fault adopt.Store = Store
adopt_fault adopt.WrongVersion = WrongVersion

-- so of the connection of the book that was made, and so of the one that is handed back
abbrev pub EitherWay : {B C : Type 0} → (B → C) → (C → Type 0) → Result B (BookFault × C) → Type 0
EitherWay conn_of what (Ok book) = what (conn_of book)
EitherWay conn_of what (Err back) = what back.1
