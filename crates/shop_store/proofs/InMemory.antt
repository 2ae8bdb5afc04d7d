-- The book in memory in the words of a book: no store can fail under it, so none of its failures is counted.
use Rattle.std.proofs.Common.{◌≡◌, refl}
use Rattle.shop_records.specs.Content.{Content}
use Rattle.shop_book.specs.Ledgers.{bare, content_in}
use Rattle.shop_book.specs.MemStorages.{HoldsTexts}
use Rattle.shop_book.specs.declared.books.Book.{Ghosts}
use Rattle.shop_book.specs.declared.mem_storage.MemStorage.{MemStorage}
use Rattle.shop_book.specs.contracts.mem_storage.MemStorage as mem_storage
use Rattle.shop_book.specs.contracts.mem_storing.MemStorageStorage.TheImpl as storage
use Rattle.shop_store.specs.declared.posted.LedgerBook.{LedgerBook}
use Rattle.shop_store.specs.contracts.ledger_book.LedgerBookBook.TheImpl as ledger

abbrev pub mem_book : Ghosts (LedgerBook MemStorage)
mem_book = ledger.ghosts mem_storage.the_row storage.ghosts ledger.no_dict

-- its disk is always clean
pub mem_clean : (book : LedgerBook MemStorage) → mem_book.has_clean_disk book
mem_clean book = tt

-- it holds a content where its storage has the texts and its ledger all else
pub mem_holds : (book : LedgerBook MemStorage) (m : Content) → HoldsTexts book.storage m → content_in book.ledger ≡ bare m → mem_book.holds book m
mem_holds book m texts rows = (texts, λ clean. rows)

pub mem_uncounted : (book : LedgerBook MemStorage) → mem_book.failed book ≡ 0
mem_uncounted book = refl
