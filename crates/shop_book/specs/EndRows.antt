-- The key of the row of a job's end.
use Rattle.std.specs.Prelude.{ℕ}
use Rattle.shop_book.specs.declared.end_rows.JobEnd.{JobEnd}

abbrev pub end_key : JobEnd → ℕ
end_key row = row.job
