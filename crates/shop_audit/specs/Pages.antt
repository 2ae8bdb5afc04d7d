-- What pages of entries show, and when the entries of a content stand under their own numbers.
use Rattle.std.specs.Prelude.{◌≡◌, ◌+◌, ◌≤◌, ◌⊎◌, ℕ, List, [], ◌∷◌, Some}
use Rattle.std.specs.FinMap.{values}
use Rattle.std.specs.Option.{IsSomeAnd}
use Rattle.shop_records.specs.Content.{Content, entry_at, entry_count}
use Rattle.shop_records.specs.Elements.{IsIn}
use Rattle.shop_records.specs.declared.journal.Entry.{Entry}

-- the numbers of the entries are the next ones behind a number
abbrev pub NumberedBehind : (number : ℕ) → List Entry → Type 0
NumberedBehind number [] = Unit {0}
NumberedBehind number (entry ∷ entries) = (entry.number ≡ number + 1) × NumberedBehind (number + 1) entries

-- From a number on the entries have the next ones up to another: whatever is passed over on the way has one that was there.
abbrev pub GoesOn : (from to : ℕ) → List Entry → Type 0
GoesOn from to [] = from ≡ to
GoesOn from to (entry ∷ entries) = (from ≡ to) ⊎ ((entry.number ≡ from + 1) × GoesOn (from + 1) to entries) ⊎ ((entry.number ≤ from) × GoesOn from to entries)

-- a content has each of these entries under its number
abbrev pub AreByNumber : Content → List Entry → Type 0
AreByNumber content entries = (entry : Entry) → IsIn entry entries → entry_at content entry.number ≡ Some entry

-- one content has each entry of another under its number, and keeps the same of messages
pub record IsByNumber (content other : Content) : Type 0 where
  pub kept : other.kept ≡ content.kept
  pub entries : AreByNumber other (values content.entries)

-- the entry that stands under a number has it
abbrev pub IsOwn : Content → (number : ℕ) → Type 0
IsOwn content number = IsSomeAnd (entry_at content number) (λ entry. entry.number ≡ number)

-- there are so many entries, of which one stands under 1 and one under how many there are, both with these numbers
pub record HasEnds (content : Content) (count : ℕ) : Type 0 where
  pub many : entry_count content ≡ count
  pub first : IsOwn content 1
  pub last : IsOwn content count
