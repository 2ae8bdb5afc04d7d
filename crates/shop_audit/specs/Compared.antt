-- What is the same in two contents.
use Rattle.std.specs.Prelude.{◌≡◌, ◌≤◌, ◌<◌, ◌+◌, ℕ, List, Some, true}
use Rattle.std.specs.FinMap.{len}
use Rattle.shop_records.specs.Content.{Content, entry_count, halt_at, has_order, import_at}
use Rattle.shop_records.specs.declared.records.JobHalt.{JobHalt}
use Rattle.shop_book.specs.declared.books.Book.{Ghosts}
use Rattle.shop_book.specs.Kept.{Unchanged}

-- of an order's import the same is kept in both
abbrev pub IsImportAlike : (a b : Content) → (code : List ℕ) → Type 0
IsImportAlike a b code = import_at a code ≡ import_at b code

-- of the imports of b's orders the same is kept in both
abbrev pub HaveSameImports : (a b : Content) → Type 0
HaveSameImports a b = (code : List ℕ) → has_order b code ≡ true → IsImportAlike a b code

-- where the work on a job halted in b, it halted there in a
abbrev pub IsHaltAlike : (a b : Content) → (number : ℕ) → Type 0
IsHaltAlike a b number = (row : JobHalt) → halt_at b number ≡ Some row → halt_at a number ≡ Some row

-- so of each number from 1 on below this one
abbrev pub HaltAlikeBelow : (a b : Content) → (behind : ℕ) → Type 0
HaltAlikeBelow a b behind = (number : ℕ) → 1 ≤ number → number < behind → IsHaltAlike a b number

-- so of each number that b has given to an act
abbrev pub HaveSameHalts : (a b : Content) → Type 0
HaveSameHalts a b = HaltAlikeBelow a b (b.last_act + 1)

-- there are so many entries in both, and as many messages, imports and halts are kept in one as in the other
pub record AreAsMany (a b : Content) (count : ℕ) : Type 0 where
  pub one : entry_count a ≡ count
  pub other : entry_count b ≡ count
  pub kept : len a.kept ≡ len b.kept
  pub imports : len a.imports ≡ len b.imports
  pub halts : len a.halts ≡ len b.halts

-- as much is kept in both, and of imports and halts the same
pub record HaveSameTexts (a b : Content) (count : ℕ) : Type 0 where
  pub many : AreAsMany a b count
  pub imports : HaveSameImports a b
  pub halts : HaveSameHalts a b

-- the book is left as it was, but for the failures that it counts
abbrev pub IsLookedAt : {B : Type 0} → Ghosts B → B → B → Type 0
IsLookedAt book old new = Unchanged book (λ before after. Unit {0}) old new

-- on two books whose disks are still clean, this of each content that the one held and each that the other held
abbrev pub OnBoth : {B F : Type 0} → Ghosts B → Ghosts F → (old new : B) → (before after : F) → (Content → Content → Type 0) → Type 0
OnBoth book anew old new before after what =
    book.has_clean_disk new → anew.has_clean_disk after → (m c : Content) → book.holds old m → anew.holds before c → what m c
