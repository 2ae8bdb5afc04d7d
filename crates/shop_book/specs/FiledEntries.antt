-- What is filed of entries: under their job or their act, the code of their order and the name of their part; and which entries
-- have such a key of a story.
use Rattle.std.specs.Prelude.{◌≡◌, ◌⊎◌, ◌≤◌, ◌<◌, ℕ, Bool, false, IfSome, IsTrue, List, Option, Some, min}
use Rattle.std.specs.Option.{IsSomeAnd}
use Rattle.cut_measure.specs.Names.{Name}
use Rattle.shop_records.specs.Elements.{IsIn}
use Rattle.shop_records.specs.Lists.{is_code_of, is_name_of}
use Rattle.shop_records.specs.declared.journal.Entry.{Entry}
use Rattle.shop_records.specs.declared.journal.Subject.{Subject}
use Rattle.shop_records.specs.declared.journal.Subject.TheVariants as subject
use Rattle.shop_book.specs.Filing.{is_filed_for, is_filed_in, is_filed_of}
use Rattle.shop_book.specs.declared.number_index.NumberIndex.{NumberIndex}

-- the number under which an entry is filed: its own, and of entries from the greatest one on this
abbrev pub filed_number : ℕ → ℕ
filed_number number = min number 4294967295

-- the number is filed under another one, or this one is 0, under which nothing is filed
abbrev pub IsUnderSome : NumberIndex → (under number : ℕ) → Type 0
IsUnderSome index under number = 1 ≤ under → IsTrue (is_filed_for index under number)

-- the number of an entry is filed under its job, its act, its order and its part, as far as it has them
pub record IsEntryFiled (index : NumberIndex) (entry : Entry) : Type 0 where
  pub job : IsUnderSome index entry.job (filed_number entry.number)
  pub act : IsUnderSome index entry.act (filed_number entry.number)
  pub order : (code : List ℕ) → entry.order ≡ Some code → IsTrue (is_filed_of index code (filed_number entry.number))
  pub part : (name : Name) → entry.part ≡ Some name → IsTrue (is_filed_in index name (filed_number entry.number))

-- so is that of each of entries
abbrev pub AreEntriesFiled : NumberIndex → List Entry → Type 0
AreEntriesFiled index entries = (entry : Entry) → IsIn entry entries → IsEntryFiled index entry

-- ---- the keys of a story

-- the entry has the code of the order, or the name of the part
abbrev pub is_named : Subject → Entry → Bool
is_named (subject.Order code) entry = is_code_of code entry.order
is_named (subject.Job number) entry = false
is_named (subject.Part name) entry = is_name_of name entry.part

-- the entry has them, or its job or its act is one of these
abbrev pub HasKey : Subject → (acts : List ℕ) → Entry → Type 0
HasKey about acts entry = IsTrue (is_named about entry) ⊎ (IsIn entry.job acts ⊎ IsIn entry.act acts)

-- the number is filed under the code of the order, or the name of the part
abbrev pub IsNamedIn : NumberIndex → Subject → (number : ℕ) → Type 0
IsNamedIn index (subject.Order code) number = IsTrue (is_filed_of index code number)
IsNamedIn index (subject.Job job) number = ⊥
IsNamedIn index (subject.Part name) number = IsTrue (is_filed_in index name number)

-- it is filed under one of these
pub record IsUnderAny (index : NumberIndex) (acts : List ℕ) (number : ℕ) : Type 0 where
  pub act : ℕ
  pub among : IsIn act acts
  pub filed : IsUnderSome index act number

-- Behind this number the entries of a story go on: none of them that has such a key, and a greater number than the one behind
-- which they are asked for, comes before; where there is no such number, there are none.
pub record SkipsNone (entries : List Entry) (about : Subject) (acts : List ℕ) (after : ℕ) (next : Option ℕ) : Type 0 where
  pub left : IfSome next (λ n. after ≤ n)
  pub none : (entry : Entry) → IsIn entry entries → after < entry.number → HasKey about acts entry → IsSomeAnd next (λ n. n < entry.number)
