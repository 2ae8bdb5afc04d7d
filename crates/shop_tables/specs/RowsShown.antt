-- What a list shows, of tables that may stand for no books.
use Rattle.std.specs.Prelude.{◌≡◌, ◌⊎◌, ℕ, pos, Bool, true, List, [], ◌∷◌, ◌++◌, map, filter, Option, Some, None, Result, Vec, IfOk, IsTrue, IsPermutation, IsSorted}
use Rattle.std.specs.Ordering.{ordering_then}
use Rattle.std.specs.declared.cmp.Ordering.{Ordering}
use Rattle.std.specs.declared.cmp.Ordering.TheVariants.{Equal}
use Rattle.sqlite_value.specs.declared.value.Value.TheVariants.{Int}
use Rattle.sqlite_value.specs.Order.{Row, column, value_cmp}
use Rattle.sqlite_trees.specs.Tree.{Trees}
use Rattle.sqlite.specs.Query.{limited}
use Rattle.sqlite.specs.State.{State, HasCleanDisk}
use Rattle.sqlite.specs.declared.rows.Row.{Row as Answered}
use Rattle.std.specs.declared.alloc.Global.{Global}
use Rattle.shop_statements.specs.Found.{are_equal, columns_of}
use Rattle.shop_statements.specs.Layout.{HasShopTables}
use Rattle.shop_statements.specs.Shown.{Books, Leaves, OnBooks}
use Rattle.shop_tables.specs.ListedRows.{number_row}

-- by the values of these columns, one after another
abbrev pub by_columns : List ℕ → Row → Row → Ordering
by_columns [] a b = Equal
by_columns (at ∷ more) a b = ordering_then (value_cmp (column a at) (column b at)) (by_columns more a b)

-- What is given is shown of the rows of a table that pass, in this order: of the first so many, or of all. So no row among
-- them is left out.
pub record AreShown (shown : Row → Row) (order : Row → Row → Ordering) (most : Option ℕ) (passes : Row → Bool) (stored given : List Row) : Type 0 where
  pub rows : List Row
  pub same : IsPermutation (filter passes stored) rows
  pub sorted : IsSorted order rows
  pub are : given ≡ map shown (limited most rows)

-- What a query of rows says of held books, and of whatever rows are in the tables, and what it leaves.
pub record GivesRows {E : Type 0} (old new : State) (result : Result (Vec Answered Global) E) (of_books : Books → List Row → Type 0) (of_tables : Trees → List Row → Type 0) : Type 0 where
  pub rows : OnBooks old new (λ books. IfOk result (λ rows. of_books books rows.items))
  pub stands : HasCleanDisk new → HasShopTables old.now.schema → IfOk result (λ rows. of_tables old.now.trees rows.items)
  pub was_open : HasCleanDisk new → IfOk result (λ _. IsTrue old.is_open)
  pub leaves : Leaves old new

-- while it is open, the connection sees its last commit, as it does outside a transaction
abbrev pub SeesCommit : State → Type 0
SeesCommit s = IsTrue s.is_open → s.now ≡ s.committed

-- ---- materials: every row of the table, by its code

abbrev pub AreMaterialRows : List Row → List Row → Type 0
AreMaterialRows = AreShown (λ row. columns_of 4 2 row ++ columns_of 1 1 row) (by_columns (1 ∷ [])) None (λ _. true)

-- ---- what is said of orders: every row of the table, by its order's code

abbrev pub AreNoteRows : List Row → List Row → Type 0
AreNoteRows = AreShown (λ row. columns_of 2 2 row ++ columns_of 1 1 row) (by_columns (1 ∷ [])) None (λ _. true)

-- ---- orders, by their codes

abbrev pub AreOrderRows : ℕ → List Row → List Row → Type 0
AreOrderRows most = AreShown (columns_of 1 1) (by_columns (1 ∷ [])) (Some most) (λ _. true)

-- ---- the number of a terminal's kept message with the greatest one; nothing where none is kept

abbrev pub AreLastRows : ℕ → List Row → List Row → Type 0
AreLastRows terminal =
    AreShown (columns_of 1 2) (λ a b. by_columns (2 ∷ []) b a) (Some 1) (λ row. are_equal (column row 1) (Int (pos terminal)))

-- that number, or 0 where none is kept
abbrev pub IsLastIn : ℕ → List Row → ℕ → Type 0
IsLastIn terminal stored last = AreLastRows terminal stored (number_row last ∷ []) ⊎ (AreLastRows terminal stored [] × (last ≡ 0))
