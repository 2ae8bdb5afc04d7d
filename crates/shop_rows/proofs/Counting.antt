-- Sums that a row is put into, or to which a part adds nothing.
use Rattle.std.proofs.Common.{◌≡◌, ℕ, ◌<◌, Bool, true, false, cond, ◌&&◌, List, Some, is_some, refl, sym, ap, subst, ◌∙◌, arith}
use Rattle.std.specs.Prelude.{◌*◌, if◌then◌else◌}
use Rattle.std.specs.FinMap.{find}
use Rattle.std.specs.FinMap.Entries.{find-put}
use Rattle.std.specs.Cmp.Lexicographic.{nat_list_cmp_total}
use Rattle.std.specs.Ordering.{eq_by_cmp, is_eq}
use Rattle.cut_measure.specs.Codes.{code_cmp}
use Rattle.shop_records.specs.Columns.{is_counted}
use Rattle.shop_records.specs.declared.records.Column.{Column}
use Rattle.shop_records.specs.declared.records.Part.{Part}
use Rattle.shop_rows.specs.Adding.{IsAdded, has_sums}
use Rattle.shop_rows.specs.Rows.{entries_of, row_at, IsPut}
use Rattle.shop_rows.specs.Sums.{counted_cells, found_sum, sum_at, sum_in, sums_key}
use Rattle.shop_rows.specs.declared.sums.Sums.{Sums}
use Rattle.shop_rows.proofs.Summed.{same_code}

-- ---- a row of sums that is put

row_after : (code : List ℕ) (sums : Sums) (old new : List Sums) → IsPut sums_key code_cmp sums old new → row_at sums_key code_cmp code new ≡ cond (eq_by_cmp code_cmp code sums.code) (Some sums) (row_at sums_key code_cmp code old)
row_after code sums old new is_put = ap (find code_cmp code) is_put ∙ find-put code_cmp nat_list_cmp_total code sums.code sums (entries_of sums_key code_cmp old)

pub put_there : (code : List ℕ) (sums : Sums) (old new : List Sums) → IsPut sums_key code_cmp sums old new → has_sums code new ≡ cond (eq_by_cmp code_cmp code sums.code) true (has_sums code old)
put_there code sums old new is_put =
    ap is_some (row_after code sums old new is_put)
    ∙ elim (eq_by_cmp code_cmp code sums.code) as (λ b. is_some (cond b (Some sums) (row_at sums_key code_cmp code old)) ≡ cond b true (has_sums code old)) [ true ↦ refl | false ↦ refl ]

-- in place of another one
pub put_over : (code : List ℕ) (sums : Sums) (old new : List Sums) → IsPut sums_key code_cmp sums old new → has_sums sums.code old ≡ true → has_sums code new ≡ has_sums code old
put_over code sums old new is_put there = put_there code sums old new is_put ∙ by_code (eq_by_cmp code_cmp code sums.code) refl
  where
    by_code : (b : Bool) → eq_by_cmp code_cmp code sums.code ≡ b → cond b true (has_sums code old) ≡ has_sums code old
    by_code true e = sym there ∙ ap (λ c. has_sums c old) (sym (same_code code sums.code e))
    by_code false e = refl

-- sums of nothing
pub put_nothing : (column : Column) (code : List ℕ) (sums : Sums) (old new : List Sums) → IsPut sums_key code_cmp sums old new → sum_in column sums ≡ 0 → sum_at column code old ≡ 0 → sum_at column code new ≡ 0
put_nothing column code sums old new is_put none was =
    ap (found_sum column) (row_after code sums old new is_put)
    ∙ elim (eq_by_cmp code_cmp code sums.code) as (λ b. found_sum column (cond b (Some sums) (row_at sums_key code_cmp code old)) ≡ 0) [ true ↦ none | false ↦ was ]

-- sums below a bound
pub put_small : (column : Column) (code : List ℕ) (sums : Sums) (old new : List Sums) (n : ℕ) → IsPut sums_key code_cmp sums old new → sum_in column sums < n → sum_at column code old < n → sum_at column code new < n
put_small column code sums old new n is_put one was =
    subst (λ m. m < n) (sym (ap (found_sum column) (row_after code sums old new is_put)))
    (elim (eq_by_cmp code_cmp code sums.code) as (λ b. found_sum column (cond b (Some sums) (row_at sums_key code_cmp code old)) < n) [ true ↦ one | false ↦ was ])

no_cells : (a b : Bool) (n : ℕ) → (if b then n else 0) ≡ 0 → (if a && b then n else 0) ≡ 0
no_cells true b n e = e
no_cells false b n e = refl

-- a part that no column counts adds nothing
pub added_none : (part : Part) (sums : List Sums) → ((column : Column) → counted_cells column part ≡ 0) → IsAdded part sums sums
added_none part sums none = record {
  adds = λ column code. let e = no_cells (is_eq (code_cmp part.material code)) (is_counted column part) (part.size.w * part.size.h) (none column) in omega (arith, e);
  there = λ code. refl;
}
