-- Sums of parts among which parts are put.
use Rattle.std.proofs.Common.{◌≡◌, ℕ, ◌+◌, ◌*◌, ◌≤◌, Bool, true, false, List, [], ◌∷◌, ◌++◌, take, drop, map, sym, ap, ◌∙◌, arith}
use Rattle.std.specs.Prelude.{Option, Some, sum_by, cond}
use Rattle.std.specs.Ordering.{is_eq}
use Rattle.std.proofs.lemmas.Bool.{le-leb}
use Rattle.std.specs.List.{insert_slice}
use Rattle.std.proofs.lemmas.List.Sums.{sum_by-cons, sum_by-append, sum_by-take-drop}
use Rattle.cut_measure.specs.Names.{Name, name_cmp}
use Rattle.shop_records.specs.declared.records.Part.{Part}
use Rattle.shop_records.specs.declared.records.Column.{Column}
use Rattle.shop_records.specs.Content.{of_found, cells_in}
use Rattle.shop_records.proofs.Sums.{sum-put}
use Rattle.shop_rows.specs.declared.sums.Sums.{Sums}
use Rattle.shop_rows.specs.Rows.{entries_of, rise, row_at, IsPut}
use Rattle.shop_rows.specs.Sums.{sum_at, counted_cells, cells_for, AreSumsOf, most_cells, all_small}
use Rattle.shop_rows.proofs.Mapped.{all-put, seconds}
use Rattle.shop_rows.proofs.Places.{tested}
use Rattle.shop_rows.proofs.Summed.{counted_own, is_small}
use Rattle.shop_rows.specs.Keys.{part_key, names_total}

-- ---- a part put among parts

-- the cells after a part was put, and those of the part that it replaced
pub cells-put : (column : Column) (code : List ℕ) (part : Part) (old new : List Part) → rise part_key name_cmp old ≡ true → IsPut part_key name_cmp part old new
    → cells_in column code new + of_found (cells_for column code) (row_at part_key name_cmp part.name old) ≡ cells_in column code old + cells_for column code part
cells-put column code part old new up is_put =
    ap (λ ps. sum_by (cells_for column code) ps + of_found (cells_for column code) (row_at part_key name_cmp part.name old))
    (sym (seconds part_key name_cmp new) ∙ ap (map (λ (e : Name × Part). e.1)) is_put)
    ∙ sum-put names_total (cells_for column code) part.name part (entries_of part_key name_cmp old) (tested _ up)
    ∙ ap (λ ps. sum_by (cells_for column code) ps + cells_for column code part) (seconds part_key name_cmp old)

-- ---- a part that is replaced was counted

found_in : (column : Column) (code : List ℕ) (p q : Part) (ps : List Part) (b : Bool) (found : Option Part) → cond b (Some q) found ≡ Some p
    → (found ≡ Some p → cells_for column code p ≤ cells_in column code ps) → cells_for column code p ≤ cells_in column code (q ∷ ps)
found_in column code p q ps true found e later =
    let same : q ≡ p = cc in omega (arith, sum_by-cons (cells_for column code) q ps, ap (cells_for column code) same)
found_in column code p q ps false found e later = omega (arith, sum_by-cons (cells_for column code) q ps, later e)

found_cells : (column : Column) (code : List ℕ) (name : Name) (p : Part) (parts : List Part) → row_at part_key name_cmp name parts ≡ Some p → cells_for column code p ≤ cells_in column code parts
found_cells column code name p [] e = cc
found_cells column code name p (q ∷ ps) e =
    found_in column code p q ps (is_eq (name_cmp name q.name)) (row_at part_key name_cmp name ps) e (found_cells column code name p ps)

pub replaced_counted : (column : Column) (name : Name) (p : Part) (parts : List Part) (rows : List Sums) → AreSumsOf parts rows → row_at part_key name_cmp name parts ≡ Some p
    → counted_cells column p ≤ sum_at column p.material rows
replaced_counted column name p parts rows sums e = omega (arith, counted_own column p, found_cells column p.material name p parts e, sums column p.material)

-- ---- small parts

pub small-put : (part : Part) (old new : List Part) → part.size.w * part.size.h ≤ most_cells → all_small old ≡ true → IsPut part_key name_cmp part old new → all_small new ≡ true
small-put part old new own small is_put = all-put is_small part_key name_cmp part old new (le-leb (part.size.w * part.size.h) most_cells own) small is_put

-- ---- parts that are put together

pub cells-inserted : (column : Column) (code : List ℕ) (old added : List Part) (i : ℕ) → cells_in column code (insert_slice old i added) ≡ cells_in column code old + cells_in column code added
cells-inserted column code old added i =
    omega (arith, sum_by-append (cells_for column code) (take i old ++ added) (drop i old), sum_by-append (cells_for column code) (take i old) added, sum_by-take-drop (cells_for column code) old i)
