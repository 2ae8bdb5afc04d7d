-- The sums of each material's parts, kept beside the parts.
use Rattle.std.specs.Prelude.{◌≡◌, ℕ, ◌*◌, List, Bool, nat_le, Option, Some, None, if◌then◌else◌}
use Rattle.std.specs.List.{list_all}
use Rattle.cut_measure.specs.Codes.{code_cmp}
use Rattle.shop_records.specs.declared.records.Part.{Part}
use Rattle.shop_records.specs.declared.records.Column.{Column}
use Rattle.shop_records.specs.declared.records.Column.TheVariants.{Received, Stock, Rack, Pieces, Kerf, Scrap, Returned}
use Rattle.shop_records.specs.declared.records.Totals.{Totals}
use Rattle.shop_records.specs.Columns.{is_counted}
use Rattle.shop_records.specs.Content.{counts_for, cells_in}
use Rattle.shop_rows.specs.declared.sums.Sums.{Sums}
use Rattle.shop_rows.specs.Rows.{row_at}

abbrev pub sum_in : Column → Sums → ℕ
sum_in Received sums = sums.received
sum_in Stock sums = sums.stock
sum_in Rack sums = sums.rack
sum_in Pieces sums = sums.pieces
sum_in Kerf sums = sums.kerf
sum_in Scrap sums = sums.scrap
sum_in Returned sums = sums.returned

abbrev pub total_in : Column → Totals → ℕ
total_in Received totals = totals.received
total_in Stock totals = totals.stock
total_in Rack totals = totals.rack
total_in Pieces totals = totals.pieces
total_in Kerf totals = totals.kerf
total_in Scrap totals = totals.scrap
total_in Returned totals = totals.returned

abbrev pub sums_key : Sums → List ℕ
sums_key sums = sums.code

abbrev pub found_sum : Column → Option Sums → ℕ
found_sum column None = 0
found_sum column (Some sums) = sum_in column sums

-- the sum of a column of a material, 0 where there is no row
abbrev pub sum_at : Column → List ℕ → List Sums → ℕ
sum_at column code rows = found_sum column (row_at sums_key code_cmp code rows)

-- the cells that a part adds to a column
abbrev pub counted_cells : Column → Part → ℕ
counted_cells column part = if is_counted column part then part.size.w * part.size.h else 0

-- and to a column of a material
abbrev pub cells_for : Column → List ℕ → Part → ℕ
cells_for column code part = if counts_for column code part then part.size.w * part.size.h else 0

-- the sums are those of the parts
abbrev pub AreSumsOf : List Part → List Sums → Type 0
AreSumsOf parts rows = (column : Column) (code : List ℕ) → sum_at column code rows ≡ cells_in column code parts

-- the most cells of a part
abbrev pub most_cells : ℕ
most_cells = 12000000000

-- whether no part has more
abbrev pub all_small : List Part → Bool
all_small parts = list_all (λ part. nat_le (part.size.w * part.size.h) most_cells) parts

-- the totals of a material by its sums
abbrev pub totals_from : List ℕ → List Sums → Totals
totals_from code rows =
    record {
      received = sum_at Received code rows;
      stock = sum_at Stock code rows;
      rack = sum_at Rack code rows;
      pieces = sum_at Pieces code rows;
      kerf = sum_at Kerf code rows;
      scrap = sum_at Scrap code rows;
      returned = sum_at Returned code rows;
    }
