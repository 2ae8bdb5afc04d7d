-- What adding a part makes of sums.
use Rattle.std.specs.Prelude.{◌≡◌, ℕ, ◌+◌, ◌≤◌, ◌^◌, List, Bool, false, is_some}
use Rattle.cut_measure.specs.Codes.{code_cmp}
use Rattle.shop_records.specs.declared.records.Column.{Column}
use Rattle.shop_records.specs.declared.records.Part.{Part}
use Rattle.shop_rows.specs.Rows.{row_at}
use Rattle.shop_rows.specs.Sums.{cells_for, counted_cells, sum_at, sums_key}
use Rattle.shop_rows.specs.declared.sums.Sums.{Sums}

-- whether there are sums for the material
abbrev pub has_sums : List ℕ → List Sums → Bool
has_sums code sums = is_some (row_at sums_key code_cmp code sums)

-- the part's cells are added, and there are sums for the same materials
pub record IsAdded (part : Part) (old new : List Sums) : Type 0 where
  pub adds : (column : Column) (code : List ℕ) → sum_at column code new ≡ sum_at column code old + cells_for column code part
  pub there : (code : List ℕ) → has_sums code new ≡ has_sums code old

-- there are no sums for the material of the part, and a column counts cells of it
pub record IsLost (part : Part) (sums : List Sums) : Type 0 where
  pub none : has_sums part.material sums ≡ false
  pub counted : (column : Column) × (1 ≤ counted_cells column part)

-- 64 bits don't hold a column of the part's material with the part
pub record IsOver (part : Part) (sums : List Sums) : Type 0 where
  pub column : Column
  pub large : 2 ^ 64 ≤ sum_at column part.material sums + counted_cells column part
