-- What is kept of a book, and said of what it held, over the words of a book.
use Rattle.std.specs.Prelude.{ℕ}
use Rattle.shop_records.specs.Content.{Content}
use Rattle.shop_book.specs.declared.books.Book.{Ghosts}
use Rattle.shop_book.specs.Books.{Keeps}

-- the book is left as it was, and counts its failures so
abbrev pub Unchanged : {B : Type 0} → Ghosts B → (ℕ → ℕ → Type 0) → B → B → Type 0
Unchanged book counts old new = Keeps book.has_clean_disk book.holds book.may_leave book.failed counts old new

-- on a book whose disk is still clean, this of each content that it held
abbrev pub OnContent : {B : Type 0} → Ghosts B → B → B → (Content → Type 0) → Type 0
OnContent book old new what = book.has_clean_disk new → (m : Content) → book.holds old m → what m
