-- How failures of a store are counted.
use Rattle.std.specs.Prelude.{◌≡◌, ℕ, ◌+◌, nat_lt, if◌then◌else◌, List, codes, Result, Ok, Err}
use Rattle.shop_book.specs.declared.books.TheConstants.{MAX_FAILURES}
use Rattle.shop_book.specs.declared.books.BookFault.{BookFault}
use Rattle.shop_book.specs.declared.books.BookFault.TheVariants.{NoMemory, Store, WrongVersion}
use Rattle.shop_records.specs.declared.refusals.Refusal.{Refusal}
use Rattle.shop_records.specs.declared.refusals.Refusal.TheVariants as refusal

-- one more, and at the greatest count the same
abbrev pub one_more_failure : ℕ → ℕ
one_more_failure n = if nat_lt n MAX_FAILURES then n + 1 else MAX_FAILURES

-- a failed store raises the count, and nothing else does; a book that was made is of no wrong version
abbrev pub CountsFailure : {T : Type 0} → Result T BookFault → ℕ → ℕ → Type 0
CountsFailure (Ok x) before after = after ≡ before
CountsFailure (Err NoMemory) before after = after ≡ before
CountsFailure (Err Store) before after = after ≡ one_more_failure before
CountsFailure (Err WrongVersion) before after = ⊥

-- the refusal that reports a fault
abbrev pub refusal_for : BookFault → Refusal
refusal_for NoMemory = refusal.NoMemory
refusal_for Store = refusal.StoreFault
refusal_for WrongVersion = refusal.StoreFault

-- what a fault is printed as
abbrev pub book_fault_text : BookFault → List ℕ
book_fault_text NoMemory = codes "fault memory"
book_fault_text Store = codes "fault store"
book_fault_text WrongVersion = codes "fault version"
