-- What a ledger beside a storage keeps.
use Rattle.std.proofs.Common.{◌≡◌, ℕ, Result, Ok, Err, IfOk, sym, ap, subst, ◌∙◌, true≢false}
use Rattle.std.specs.Prelude.{IfErr, IsOk}
use Rattle.shop_records.specs.Content.{Content}
use Rattle.shop_book.specs.Storages.{IsRead}
use Rattle.shop_book.specs.Ledgers.{content_in}
use Rattle.shop_store.specs.LedgerBooks.{HoldsBoth, KeepsBoth, failed_of, fault_by, result_by}
use Rattle.shop_book.specs.declared.books.BookFault.{BookFault}
use Rattle.shop_book.specs.declared.books.BookFault.TheVariants as book
use Rattle.shop_book.specs.declared.storage.Storage.{Ghosts}
use Rattle.shop_book.specs.declared.storage.StorageFault.{StorageFault}
use Rattle.shop_book.specs.declared.storage.StorageFault.TheVariants as storage
use Rattle.shop_store.specs.declared.posted.LedgerBook.{LedgerBook}

lift : {T : Type 0} (P : T → Type 0) (r : Result T StorageFault) → IfOk r P → IfOk (result_by r) P
lift P (Ok x) h = h
lift P (Err e) h = tt

-- what is said of the storage's answer is said of the book's
pub as_reported : {T : Type 0} (P : T → Type 0) (r : Result T StorageFault) (answer : Result T BookFault) → answer ≡ result_by r → IfOk r P → IfOk answer P
as_reported P r answer same h = subst (λ a. IfOk a P) (sym same) (lift P r h)

-- so of one that only memory keeps from being reported
only_memory : {T : Type 0} (r : Result T StorageFault) → IfErr r (λ fault. fault ≡ storage.NoMemory) → IfErr (result_by r) (λ fault. fault ≡ book.NoMemory)
only_memory (Ok x) h = tt
only_memory (Err fault) h = ap fault_by h

pub memory_reported : {T : Type 0} (r : Result T StorageFault) (answer : Result T BookFault) → answer ≡ result_by r → IfErr r (λ fault. fault ≡ storage.NoMemory) → IfErr answer (λ fault. fault ≡ book.NoMemory)
memory_reported r answer same h = subst (λ a. IfErr a (λ fault. fault ≡ book.NoMemory)) (sym same) (only_memory r h)

sure : {T : Type 0} (r : Result T StorageFault) → IsOk r → IsOk (result_by r)
sure (Ok x) h = h
sure (Err fault) h = absurd (true≢false (sym h))

pub sure_reported : {T : Type 0} (r : Result T StorageFault) (answer : Result T BookFault) → answer ≡ result_by r → IsOk r → IsOk answer
sure_reported r answer same h = subst (λ a. IsOk a) (sym same) (sure r h)

module _ {S : Type 0} (g : Ghosts S) where
  -- what a book holds, it holds with another ledger of the same content and another storage that holds it
  pub holds_both : (old new : LedgerBook S) (m : Content) → HoldsBoth g old m → g.holds new.storage m → content_in new.ledger ≡ content_in old.ledger → (g.has_clean_disk new.storage → g.has_clean_disk old.storage)
      → HoldsBoth g new m
  holds_both old new m was held same earlier = (held, λ clean. same ∙ was.1 (earlier clean))

  -- a reading of the storage leaves the book as it was
  pub read_by : (counts : ℕ → ℕ → Type 0) (old new : LedgerBook S) (mid : S) → new.ledger ≡ old.ledger → new.storage ≡ mid → IsRead g.has_clean_disk g.holds g.may_leave old.storage mid → counts (failed_of g old) (failed_of g new)
      → KeepsBoth g counts old new
  read_by counts old new mid ledger storage read counted =
      let r = subst (IsRead g.has_clean_disk g.holds g.may_leave old.storage) (sym storage) read in
      record {
        clean_disk = r.clean_disk;
        stays = λ clean m was. holds_both old new m was (r.stays clean m was.0) (ap content_in ledger) r.clean_disk;
        crash = λ clean m was left may. r.crash clean m was.0 left may;
        failures = counted;
      }

  still : (storage : S) → IsRead g.has_clean_disk g.holds g.may_leave storage storage
  still storage = record { clean_disk = λ clean. clean; stays = λ clean m was. was; crash = λ clean m was left may. may }

  -- and so does one of the ledger
  pub counted : (counts : ℕ → ℕ → Type 0) (old new : LedgerBook S) → new.ledger ≡ old.ledger → new.storage ≡ old.storage → counts (failed_of g old) (failed_of g new)
      → KeepsBoth g counts old new
  counted counts old new ledger storage count = read_by counts old new old.storage ledger storage (still old.storage) count
