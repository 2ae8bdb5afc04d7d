-- The lines of an order: between which numbers its demands lie, and how they stand by line.
use Rattle.std.specs.Prelude.{◌≡◌, ◌&&◌, ℕ, List, Bool, IsTrue, nat_le}
use Rattle.std.specs.Ordering.{nat_cmp}
use Rattle.shop_records.specs.Elements.{IsIn}
use Rattle.shop_records.specs.declared.records.Demand.{Demand}
use Rattle.shop_rows.specs.Rows.{rise}
use Rattle.shop_rows.specs.declared.lines.Span.{Span}

-- whether a number is one of a span
abbrev pub is_within : Span → ℕ → Bool
is_within span number = nat_le span.first number && nat_le number span.last

abbrev pub line_key : Demand → ℕ
line_key demand = demand.line

-- The lines are those of the rows that are of an order, each of them, by rising line.
pub record AreByLine (order : List ℕ) (rows lines : List Demand) : Type 0 where
  pub rising : IsTrue (rise line_key nat_cmp lines)
  pub there : (row : Demand) → IsIn row lines → IsIn row rows × (row.order ≡ order)
  pub all : (row : Demand) → IsIn row rows → row.order ≡ order → IsIn row lines

-- of those that are of an order no two have the same line
abbrev pub HaveLines : List ℕ → List Demand → Type 0
HaveLines order rows = (a b : Demand) → IsIn a rows → IsIn b rows → a.order ≡ order → b.order ≡ order → a.line ≡ b.line → a.number ≡ b.number
