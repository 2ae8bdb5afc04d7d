-- What a book in memory contains, and when two contain the same.
use Rattle.std.specs.Prelude.{Bool}
use Rattle.std.proofs.Common.{◌∙◌}
use Rattle.std.specs.Cmp.{IsPartialEquivalence, decided}
use Rattle.shop_records.specs.Content.{Content}
use Rattle.shop_book.specs.Equal.{same_content, content_decides}
use Rattle.shop_book.specs.Ledgers.{content_in}
use Rattle.shop_book.specs.MemStorages.{entries_in, halts_in, imports_in, kept_in}
use Rattle.shop_book.specs.declared.mem_storage.MemStorage.{MemStorage}
use Rattle.shop_store.specs.declared.posted.LedgerBook.{LedgerBook}

-- the ledger's rows, and the storage's long texts and entries, and where the work on jobs halted
abbrev pub content_of : LedgerBook MemStorage → Content
content_of book =
    record (content_in book.ledger) {
      kept = kept_in book.storage;
      imports = imports_in book.storage;
      halts = halts_in book.storage;
      entries = entries_in book.storage;
    }

-- the same contents, whatever failed
abbrev pub same_books : LedgerBook MemStorage → LedgerBook MemStorage → Bool
same_books a b = same_content (content_of a) (content_of b)

pub same_books_laws : IsPartialEquivalence same_books
same_books_laws =
    let is = decided same_content content_decides in
    record {
      symm = λ a b. is.symm (content_of a) (content_of b);
      trans = λ a b c e f. is.congr (content_of a) (content_of b) (content_of c) e ∙ f;
    }
