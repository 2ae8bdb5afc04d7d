-- Rows that stand for nothing.
use Rattle.std.specs.Prelude.{◌≡◌, ◌<◌, ◌≤◌, ℕ, pos, length}
use Rattle.sqlite_value.specs.declared.value.Value.{Value}
use Rattle.sqlite_value.specs.declared.value.Value.TheVariants.{Int}
use Rattle.sqlite_value.specs.Order.{Row, column}
use Rattle.shop_records.specs.declared.records.Part.{Part}
use Rattle.shop_statements.specs.Rows.{part_row}
use Rattle.shop_statements.specs.Values.{IsPartValue}

-- the row has the value in this column
abbrev pub HasValue : Row → ℕ → Value → Type 0
HasValue row at value = (at < length row) × (column row at ≡ value)

-- it has numbers from 0 on in the columns from the first up to the second
abbrev pub HasCounts : Row → ℕ → ℕ → Type 0
HasCounts row from to = (at : ℕ) → from ≤ at → at < to → (n : ℕ) × HasValue row at (Int (pos n))

-- it is that of no part that is a value
abbrev pub IsNoPart : Row → Type 0
IsNoPart row = (part : Part) → IsPartValue part → ¬ (row ≡ part_row (part.name, part))
