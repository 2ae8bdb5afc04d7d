-- The rows of entries, read one after another.
use Rattle.std.proofs.Common.{◌≡◌, ◌+◌, ◌<◌, ◌≤◌, ℕ, zero, suc, nat_le, List, [], ◌∷◌, ◌++◌, length, map, take, get_or, None, sym, ap, ◌∙◌, arith}
use Rattle.std.specs.Prelude.{nat_lt}
use Rattle.std.specs.List.{AllByRecursion}
use Rattle.std.specs.FinMap.{entries, nat_cmp-IsAntisymmetric, values}
use Rattle.std.specs.Cmp.{nat_cmp_total}
use Rattle.std.proofs.lemmas.Bool.Decides.{nat_tests}
use Rattle.std.proofs.lemmas.List.{get_or-map, length-map, take_all, take_more}
use Rattle.sqlite_trees.proofs.ListLemmas.{all-filter, all-get_or, all-map}
use Rattle.sqlite_value.specs.Order.{Row}
use Rattle.shop_records.specs.Content.{Content}
use Rattle.shop_records.specs.Lists.{entries_behind}
use Rattle.shop_records.specs.declared.journal.Entry.{Entry}
use Rattle.shop_records.specs.declared.journal.Word.TheVariants as word
use Rattle.shop_statements.specs.Rows.{IsKeyed}
use Rattle.shop_statements.specs.Values.{IsEntryValue}
use Rattle.shop_statements.proofs.Lists.{filter-same}
use Rattle.shop_tables.specs.ListedRows.{listed_entry}
use Rattle.shop_tables.specs.RowsFrom.{entries_from}
use Rattle.shop_tables.proofs.Firsts.{each_entry}

abbrev pub none : Entry
none = record { number = 0; message_id = record { terminal = 0; number = 0 }; at = 0; word = word.Material; act = 0; job = 0; order = None; part = None }

module _ (rows : List Row) (es : List Entry) (all : AllByRecursion IsEntryValue es) (are : rows ≡ map listed_entry es) where
  many : length rows ≡ length es
  many = ap length are ∙ length-map es listed_entry

  module _ (i : ℕ) (inside : i < length rows) where
    pub row_is : (row d : Row) → row ≡ get_or rows i d → row ≡ listed_entry (get_or es i none)
    row_is row d is = is ∙ ap (λ rs. get_or rs i d) are ∙ get_or-map listed_entry es i none d (omega (arith, inside, many))

    pub value : IsEntryValue (get_or es i none)
    value = all-get_or IsEntryValue es i none all (omega (arith, inside, many))

    pub one_more : (list : List Entry) → list ≡ take i es → list ++ get_or es i none ∷ [] ≡ take (i + 1) es
    one_more list so_far = ap (λ l. l ++ get_or es i none ∷ []) so_far ∙ sym (take_more es i none (omega (arith, inside, many)))

  pub all_read : (i : ℕ) (list : List Entry) → length rows ≤ i → list ≡ take i es → list ≡ es
  all_read i list ended so_far = so_far ∙ take_all i es (omega (arith, ended, many))

-- ---- those behind a number

from_next : (after n : ℕ) → nat_le (after + 1) n ≡ nat_lt after n
from_next after n = grind (arith, nat_tests)

pub behind_is : (m : Content) (after : ℕ) → entries_from m (after + 1) ≡ entries_behind m after
behind_is m after = filter-same (λ (e : Entry). nat_le (after + 1) e.number) (λ (e : Entry). nat_lt after e.number) (λ e. from_next after e.number) (values m.entries)

all_take : {X : Type 0} (P : X → Type 0) (n : ℕ) (xs : List X) → AllByRecursion P xs → AllByRecursion P (take n xs)
all_take P zero xs h = tt
all_take P (suc n) [] h = tt
all_take P (suc n) (x ∷ xs) h = (h.0, all_take P n xs h.1)

-- each entry of held books is a value
pub all_values : (m : Content) → IsKeyed m → AllByRecursion IsEntryValue (values m.entries)
all_values m keyed = all-map IsEntryValue (λ (e : ℕ × Entry). e.1) (entries m.entries) (each_entry nat_cmp_total nat_cmp-IsAntisymmetric m.entries (λ e. IsEntryValue e.1) (λ number x found. keyed.noted number x found))

pub some_values : (m : Content) (after most : ℕ) → AllByRecursion IsEntryValue (values m.entries) → AllByRecursion IsEntryValue (take most (entries_behind m after))
some_values m after most all = all_take IsEntryValue most (entries_behind m after) (all-filter IsEntryValue (λ (e : Entry). nat_lt after e.number) (values m.entries) all)

-- the same of those from a number on
pub some_from : (m : Content) (from most : ℕ) → AllByRecursion IsEntryValue (values m.entries) → AllByRecursion IsEntryValue (take most (entries_from m from))
some_from m from most all = all_take IsEntryValue most (entries_from m from) (all-filter IsEntryValue (λ (e : Entry). nat_le from e.number) (values m.entries) all)
