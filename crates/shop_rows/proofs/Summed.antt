-- Sums of parts, and a part more or less.
use Rattle.std.proofs.Common.{◌≡◌, ℕ, ◌+◌, ◌*◌, ◌≤◌, Bool, true, false, List, [], ◌∷◌, ◌<◌, length, get_or, take, refl, sym, ap, ◌∙◌, arith}
use Rattle.std.specs.Prelude.{Some, nat_le, ◌&&◌, cond, if◌then◌else◌}
use Rattle.std.specs.declared.cmp.Ordering.{Ordering}
use Rattle.std.specs.declared.cmp.Ordering.TheVariants.{Less, Equal, Greater}
use Rattle.std.specs.Ordering.{is_eq, ordering_reverse}
use Rattle.std.specs.Cmp.{tied_itself}
use Rattle.std.specs.Cmp.Lexicographic.{nat_list_cmp_total}
use Rattle.std.specs.FinMap.{find}
use Rattle.std.specs.FinMap.Entries.{find-put}
use Rattle.std.proofs.lemmas.Bool.{leb-true, le-leb}
use Rattle.std.proofs.lemmas.List.Folds.{list_all_more}
use Rattle.std.proofs.lemmas.List.Sums.{sum_by-cons, sum_by_more}
use Rattle.cut_measure.specs.Codes.{code_cmp}
use Rattle.shop_records.specs.declared.records.Part.{Part}
use Rattle.shop_records.specs.declared.records.Column.{Column}
use Rattle.shop_records.specs.Columns.{is_counted}
use Rattle.shop_records.specs.Content.{counts_for, cells_in}
use Rattle.shop_rows.specs.declared.sums.Sums.{Sums}
use Rattle.shop_rows.specs.Keys.{codes_exact}
use Rattle.shop_rows.specs.Rows.{entries_of, row_at, IsPut}
use Rattle.shop_rows.specs.Sums.{sum_in, sums_key, found_sum, sum_at, counted_cells, cells_for, most_cells, all_small}
use Rattle.shop_rows.proofs.Listed.{tie}

pub same_code : (a b : List ℕ) → is_eq (code_cmp a b) ≡ true → a ≡ b
same_code a b e = codes_exact a b (tie _ e)

turned : (o : Ordering) → is_eq (ordering_reverse o) ≡ is_eq o
turned Less = refl
turned Equal = refl
turned Greater = refl

either_way : (a b : List ℕ) → is_eq (code_cmp a b) ≡ is_eq (code_cmp b a)
either_way a b = ap is_eq (nat_list_cmp_total.antisymm a b) ∙ turned (code_cmp b a)

plus_nothing : (n : ℕ) → n ≡ n + 0
plus_nothing n = omega arith

less_nothing : (m n : ℕ) → m ≡ n → m + 0 ≡ n
less_nothing m n e = omega arith

-- ---- a row of sums

module _ (column : Column) (code : List ℕ) (sums : Sums) (old new : List Sums) (is_put : IsPut sums_key code_cmp sums old new) where
  put_by : (b : Bool) → is_eq (code_cmp sums.code code) ≡ b → sum_at column code new ≡ found_sum column (cond b (Some sums) (row_at sums_key code_cmp code old))
  put_by b e =
      ap (λ es. found_sum column (find code_cmp code es)) is_put
      ∙ ap (found_sum column) (find-put code_cmp nat_list_cmp_total code sums.code sums (entries_of sums_key code_cmp old))
      ∙ ap (λ t. found_sum column (cond t (Some sums) (row_at sums_key code_cmp code old))) (either_way code sums.code ∙ e)

  module _ (part : Part) (of_it : sums.code ≡ part.material) where
    pub added : sum_in column sums ≡ sum_at column part.material old + counted_cells column part → sum_at column code new ≡ sum_at column code old + cells_for column code part
    added is = by_code (is_eq (code_cmp part.material code)) refl
      where
        by_code : (b : Bool) → is_eq (code_cmp part.material code) ≡ b → sum_at column code new ≡ sum_at column code old + cells_for column code part
        by_code true e =
            put_by true (ap (λ c. is_eq (code_cmp c code)) of_it ∙ e) ∙ is ∙ ap (λ c. sum_at column c old + counted_cells column part) (same_code part.material code e)
            ∙ ap (λ b. sum_at column code old + (if b && is_counted column part then part.size.w * part.size.h else 0)) (sym e)
        by_code false e =
            put_by false (ap (λ c. is_eq (code_cmp c code)) of_it ∙ e) ∙ plus_nothing (sum_at column code old)
            ∙ ap (λ b. sum_at column code old + (if b && is_counted column part then part.size.w * part.size.h else 0)) (sym e)

    pub taken : sum_in column sums + counted_cells column part ≡ sum_at column part.material old → sum_at column code new + cells_for column code part ≡ sum_at column code old
    taken is = by_code (is_eq (code_cmp part.material code)) refl
      where
        by_code : (b : Bool) → is_eq (code_cmp part.material code) ≡ b → sum_at column code new + cells_for column code part ≡ sum_at column code old
        by_code true e =
            ap (λ b. sum_at column code new + (if b && is_counted column part then part.size.w * part.size.h else 0)) e
            ∙ ap (λ n. n + counted_cells column part) (put_by true (ap (λ c. is_eq (code_cmp c code)) of_it ∙ e)) ∙ is ∙ ap (λ c. sum_at column c old) (same_code part.material code e)
        by_code false e =
            ap (λ b. sum_at column code new + (if b && is_counted column part then part.size.w * part.size.h else 0)) e
            ∙ less_nothing (sum_at column code new) (sum_at column code old) (put_by false (ap (λ c. is_eq (code_cmp c code)) of_it ∙ e))

  -- a row of sums with the cells of parts more, all of its material
  module _ (own : List ℕ) (parts : List Part) (of_it : sums.code ≡ own) (others : is_eq (code_cmp own code) ≡ false → cells_in column code parts ≡ 0) where
    pub added_all : sum_in column sums ≡ sum_at column own old + cells_in column own parts → sum_at column code new ≡ sum_at column code old + cells_in column code parts
    added_all is = by_code (is_eq (code_cmp own code)) refl
      where
        by_code : (b : Bool) → is_eq (code_cmp own code) ≡ b → sum_at column code new ≡ sum_at column code old + cells_in column code parts
        by_code true e =
            put_by true (ap (λ c. is_eq (code_cmp c code)) of_it ∙ e) ∙ is ∙ ap (λ c. sum_at column c old + cells_in column c parts) (same_code own code e)
        by_code false e =
            put_by false (ap (λ c. is_eq (code_cmp c code)) of_it ∙ e) ∙ plus_nothing (sum_at column code old) ∙ ap (λ n. sum_at column code old + n) (sym (others e))

-- ---- sums are bounded

pub cells_le : (b : Bool) (n : ℕ) → (if b then n else 0) ≤ n
cells_le true n = omega arith
cells_le false n = omega arith

pub both : (a b : Bool) → (a && b) ≡ true → (a ≡ true) × (b ≡ true)
both true b e = (refl, e)
both false b e = cc

pub cells_bounded : (column : Column) (code : List ℕ) (parts : List Part) → all_small parts ≡ true → cells_in column code parts ≤ length parts * most_cells
cells_bounded column code [] e = omega arith
cells_bounded column code (p ∷ ps) e =
    let t = both (nat_le (p.size.w * p.size.h) most_cells) (all_small ps) e in
    omega (arith, sum_by-cons (cells_for column code) p ps, cells_le (counts_for column code p) (p.size.w * p.size.h), leb-true (p.size.w * p.size.h) most_cells t.0, cells_bounded column code ps t.1)

-- ---- a part and its own material

own_code : (code : List ℕ) → is_eq (code_cmp code code) ≡ true
own_code code = ap is_eq (tied_itself nat_list_cmp_total code)

pub counted_own : (column : Column) (part : Part) → cells_for column part.material part ≡ counted_cells column part
counted_own column part = ap (λ b. if b && is_counted column part then part.size.w * part.size.h else 0) (own_code part.material)

-- ---- one part more of a list

abbrev pub is_small : Part → Bool
is_small part = nat_le (part.size.w * part.size.h) most_cells

module _ (parts : List Part) (i : ℕ) (part : Part) (within : i < length parts) (is : part ≡ get_or parts i part) where
  pub cells-more : (column : Column) (code : List ℕ) → cells_in column code (take (i + 1) parts) ≡ cells_in column code (take i parts) + cells_for column code part
  cells-more column code = sum_by_more (cells_for column code) parts i part within ∙ ap (λ p. cells_in column code (take i parts) + cells_for column code p) (sym is)

  pub small-more : part.size.w * part.size.h ≤ most_cells → all_small (take i parts) ≡ true → all_small (take (i + 1) parts) ≡ true
  small-more own small =
      list_all_more is_small parts i part within ∙ ap (λ p. all_small (take i parts) && is_small p) (sym is) ∙ ap (λ b. b && is_small part) small ∙ le-leb (part.size.w * part.size.h) most_cells own

pub cells_own : (column : Column) (part : Part) (code : List ℕ) → part.material ≡ code → cells_for column code part ≡ counted_cells column part
cells_own column part code e = ap (λ c. cells_for column c part) (sym e) ∙ counted_own column part

pub cells_other : (column : Column) (part : Part) (own code : List ℕ) → part.material ≡ own → is_eq (code_cmp own code) ≡ false → cells_for column code part ≡ 0
cells_other column part own code e other = ap (λ b. if b && is_counted column part then part.size.w * part.size.h else 0) (ap (λ c. is_eq (code_cmp c code)) e ∙ other)
