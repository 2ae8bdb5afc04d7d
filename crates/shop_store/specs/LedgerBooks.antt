-- What a ledger beside a storage holds, and how the storage's answers are reported.
use Rattle.std.specs.Prelude.{◌≡◌, ℕ, Result, Ok, Err, if◌then◌else◌}
use Rattle.shop_records.specs.Content.{Content}
use Rattle.shop_book.specs.Books.{Keeps}
use Rattle.shop_book.specs.Failures.{CountsFailure}
use Rattle.shop_book.specs.Ledgers.{bare, content_in}
use Rattle.shop_book.specs.declared.books.BookFault.{BookFault}
use Rattle.shop_book.specs.declared.books.BookFault.TheVariants as book
use Rattle.shop_book.specs.declared.storage.Storage.{Ghosts}
use Rattle.shop_book.specs.declared.storage.StorageFault.{StorageFault}
use Rattle.shop_book.specs.declared.storage.StorageFault.TheVariants as storage
use Rattle.shop_store.specs.declared.posted.LedgerBook.{LedgerBook}

-- the storage holds the content, and unless its disk failed the ledger has all of it but the long texts
abbrev pub HoldsBoth : {S : Type 0} → (g : Ghosts S) → LedgerBook S → Content → Type 0
HoldsBoth g b m = g.holds b.storage m × (g.has_clean_disk b.storage → content_in b.ledger ≡ bare m)

-- the failures that are counted: none where no store may fail
abbrev pub failed_of : {S : Type 0} → (g : Ghosts S) → LedgerBook S → ℕ
failed_of g b = if g.MAY_FAIL then b.failures else 0

-- the book is left as it was, and counts its failures so
abbrev pub KeepsBoth : {S : Type 0} → (g : Ghosts S) → (ℕ → ℕ → Type 0) → LedgerBook S → LedgerBook S → Type 0
KeepsBoth g counts old new = Keeps (λ b. g.has_clean_disk b.storage) (HoldsBoth g) (λ b left. g.may_leave b.storage left) (failed_of g) counts old new

-- on a book whose disk is still clean, this of each content that it held
abbrev pub OnBoth : {S : Type 0} → (g : Ghosts S) → LedgerBook S → LedgerBook S → (Content → Type 0) → Type 0
OnBoth g old new what = g.has_clean_disk new.storage → (m : Content) → HoldsBoth g old m → what m

abbrev pub fault_by : StorageFault → BookFault
fault_by storage.NoMemory = book.NoMemory
fault_by storage.Store = book.Store

-- the storage's answer as the book's
abbrev pub result_by : {T : Type 0} → Result T StorageFault → Result T BookFault
result_by (Ok x) = Ok x
result_by (Err fault) = Err (fault_by fault)

-- a fault is counted as an answer with it is
abbrev pub CountsFault : BookFault → ℕ → ℕ → Type 0
CountsFault fault before after = CountsFailure {T = Unit {0}} (Err fault) before after
