-- Numbers that are filed under a number, a code or a name: the order in which they are, and how they are found in turn.
use Rattle.std.specs.Prelude.{◌≡◌, ◌≤◌, ◌+◌, ℕ, Bool, IsTrue, IfSome, List, Option, Some, None}
use Rattle.std.specs.BTreeSet.{BTreeSet, contains}
use Rattle.std.specs.BTreeMap.Range.{IsFromStart, IsLeBy}
use Rattle.std.specs.Cmp.{IsTotalOrder, on_total, then_total, nat_cmp_total}
use Rattle.std.specs.Cmp.Lexicographic.{nat_list_cmp_total}
use Rattle.std.specs.Option.{IsSomeAnd}
use Rattle.std.specs.Ordering.{nat_cmp, ordering_then}
use Rattle.std.specs.declared.cmp.Ordering.{Ordering}
use Rattle.std.specs.declared.ops.Bound.{Bound}
use Rattle.std.specs.declared.ops.Bound.TheVariants.{Included, Excluded}
use Rattle.cut_measure.specs.Codes.{code_cmp}
use Rattle.cut_measure.specs.Names.{Name, name_cmp}
use Rattle.shop_rows.specs.Keys.{names_total}
use Rattle.shop_book.specs.declared.number_index.NumberIndex.{NumberIndex}
use Rattle.shop_book.specs.declared.index_keys.CodeKey.{CodeKey}
use Rattle.shop_book.specs.declared.index_keys.NameKey.{NameKey}
use Rattle.shop_book.specs.declared.index_keys.NumberKey.{NumberKey}

-- ---- keys

-- each by what it is filed under, and then by the number
abbrev pub number_key_cmp : NumberKey → NumberKey → Ordering
number_key_cmp a b = ordering_then (nat_cmp a.under b.under) (nat_cmp a.number b.number)

abbrev pub code_key_cmp : CodeKey → CodeKey → Ordering
code_key_cmp a b = ordering_then (code_cmp a.under b.under) (nat_cmp a.number b.number)

abbrev pub name_key_cmp : NameKey → NameKey → Ordering
name_key_cmp a b = ordering_then (name_cmp a.under b.under) (nat_cmp a.number b.number)

pub code_keys_total : IsTotalOrder code_key_cmp
code_keys_total = then_total (on_total (λ (a : CodeKey). a.under) nat_list_cmp_total) (on_total (λ (a : CodeKey). a.number) nat_cmp_total)

pub name_keys_total : IsTotalOrder name_key_cmp
name_keys_total = then_total (on_total (λ (a : NameKey). a.under) names_total) (on_total (λ (a : NameKey). a.number) nat_cmp_total)

abbrev pub number_at : (under number : ℕ) → NumberKey
number_at under number = record { under = under; number = number }

abbrev pub code_at : (under : List ℕ) (number : ℕ) → CodeKey
code_at under number = record { under = under; number = number }

abbrev pub name_at : (under : Name) (number : ℕ) → NameKey
name_at under number = record { under = under; number = number }

-- ---- what is filed

abbrev pub is_filed_for : NumberIndex → (under number : ℕ) → Bool
is_filed_for index under number = contains number_key_cmp index.numbers (number_at under number)

abbrev pub is_filed_of : NumberIndex → (under : List ℕ) (number : ℕ) → Bool
is_filed_of index under number = contains code_key_cmp index.codes (code_at under number)

abbrev pub is_filed_in : NumberIndex → (under : Name) (number : ℕ) → Bool
is_filed_in index under number = contains name_key_cmp index.names (name_at under number)

-- what was filed still is
pub record StaysFiled (old new : NumberIndex) : Type 0 where
  pub numbers : (under number : ℕ) → IsTrue (is_filed_for old under number) → IsTrue (is_filed_for new under number)
  pub codes : (under : List ℕ) (number : ℕ) → IsTrue (is_filed_of old under number) → IsTrue (is_filed_of new under number)
  pub names : (under : Name) (number : ℕ) → IsTrue (is_filed_in old under number) → IsTrue (is_filed_in new under number)

-- ---- numbers in turn

-- the keys after a number, or from the first one on
abbrev pub start_after : {K : Type 0} → (ℕ → K) → Option ℕ → Bound K
start_after at None = Included (at 0)
start_after at (Some last) = Excluded (at last)

-- the first number that is left after the last one
abbrev pub first_left : Option ℕ → ℕ
first_left None = 0
first_left (Some last) = last + 1

-- the key that was found is the least that is in the set and after the start; where none was found, there is none
pub record IsLeast {K : Type 0} (cmp : K → K → Ordering) (start : Bound K) (set : BTreeSet K) (found : Option K) : Type 0 where
  pub inside : IfSome found (IsFromStart cmp start)
  pub least : (key : K) → IsFromStart cmp start key → IsTrue (contains cmp set key) → IsSomeAnd found (λ first. IsLeBy cmp first key)

-- the number that was found is none of those that are done, and none of which this holds is left before it, or at all where none
-- was found
pub record PassesNone (has : ℕ → Type 0) (last found : Option ℕ) : Type 0 where
  pub left : IfSome found (λ first. first_left last ≤ first)
  pub none : (number : ℕ) → first_left last ≤ number → has number → IsSomeAnd found (λ first. first ≤ number)
