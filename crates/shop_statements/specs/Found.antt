-- What is found under a key, of tables that may stand for no books.
use Rattle.std.specs.Prelude.{◌≡◌, ◌+◌, ◌&&◌, ℕ, zero, suc, Bool, true, false, IsTrue, List, [], ◌∷◌, Option, Some, None, Contains}
use Rattle.sqlite_value.specs.declared.keys.Collation.TheVariants.{Binary}
use Rattle.sqlite_value.specs.declared.value.Value.{Value}
use Rattle.sqlite_value.specs.declared.value.Value.TheVariants.{Text}
use Rattle.sqlite_value.specs.Order.{Row, column}
use Rattle.sqlite_sql.specs.declared.ops.BinaryOp.TheVariants.{Compare}
use Rattle.sqlite_sql.specs.declared.ops.CompareOp.TheVariants.{Eq}
use Rattle.sqlite_sql.specs.Ops.{binary, is_true}
use Rattle.sqlite.specs.State.{State}

-- SQL takes them for equal
abbrev pub are_equal : Value → Value → Bool
are_equal a b = is_true (binary (Compare Eq Binary) a b)

-- and the columns from this one on for the key
abbrev pub has_key : Row → ℕ → Row → Bool
has_key [] at row = true
has_key (k ∷ key) at row = are_equal (column row at) k && has_key key (at + 1) row

-- so many columns from this one on
abbrev pub columns_of : ℕ → ℕ → Row → Row
columns_of zero at row = []
columns_of (suc n) at row = column row at ∷ columns_of n (at + 1) row

-- A row of the table has the key from its first place on, and these columns from a later one on; or none has the key.
abbrev pub IsUnder : List Row → ℕ → Row → ℕ → ℕ → Option Row → Type 0
IsUnder stored first key n at None = (row : Row) → Contains stored row → has_key key first row ≡ false
IsUnder stored first key n at (Some columns) = (row : Row) × Contains stored row × IsTrue (has_key key first row) × (columns_of n at row ≡ columns)

-- a row of `meta`, the first table of both versions, has the word, and this is shown of it
abbrev pub IsNumberRow : State → List ℕ → Row → Type 0
IsNumberRow s word shown = (row : Row) × Contains (s.now.trees 0) row × (column row 1 ≡ Text word) × (shown ≡ column row 2 ∷ [])
