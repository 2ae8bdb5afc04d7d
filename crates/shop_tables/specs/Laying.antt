-- What the statements do that make the tables, and those that bring them from version 1 to version 2, and from it to version 3.
use Rattle.std.specs.Prelude.{◌≡◌, ◌==◌, ℕ, false, List, [], ◌∷◌, map, Ok, IsTrue}
use Rattle.std.specs.List.{AllByRecursion}
use Rattle.std.specs.FinMap.{FinMap, entries}
use Rattle.sqlite_trees.specs.Objects.{catalog_tree}
use Rattle.sqlite_trees.specs.Tree.{rowid}
use Rattle.sqlite_trees.specs.View.{is_int}
use Rattle.sqlite_trees.specs.declared.store.Store.{Ghosts}
use Rattle.sqlite.specs.Table.{Table}
use Rattle.sqlite.specs.Schema.{Schema}
use Rattle.sqlite.specs.Change.{created, next_tree, KeepsRows}
use Rattle.sqlite.specs.Does.{lacks_sequence}
use Rattle.sqlite.specs.Edit.{IsNoIndex}
use Rattle.sqlite.specs.Effect.{Database, IsDatabase}
use Rattle.sqlite.specs.State.{State, Executes}
use Rattle.sqlite.specs.Held.{Held, state}
use Rattle.sqlite_catalog.specs.Calls.{KeepsForeign}
use Rattle.sqlite_catalog.specs.Change.{is_used}
use Rattle.cut_measure.specs.Codes.{code_cmp}
use Rattle.shop_records.specs.Content.{Content, fresh}
use Rattle.shop_records.specs.declared.records.Totals.{Totals}
use Rattle.shop_statements.specs.Earlier.{earlier_entries, earlier_row, second_entries, second_schema, HasNoneReturned}
use Rattle.shop_statements.specs.Layout.{shop_schema}
use Rattle.shop_statements.specs.Rows.{AreRows, meta_entries, meta_row, totals_row}

-- the statement ran inside a transaction, which goes on
pub record IsRun (text : List ℕ) (old new : State) : Type 0 where
  pub count : ℕ
  pub executes : Executes text [] old new (Ok count)
  pub was_open : IsTrue old.is_open
  pub is_open : IsTrue new.is_open
  pub inside : IsTrue new.in_transaction

module _ {S : Type 0} (g : Ghosts S) where
  -- the statements ran so, one after another
  abbrev pub AreRun : List (List ℕ) → Held S → Held S → Type 0
  AreRun [] old new = new ≡ old
  AreRun (text ∷ more) old new = (mid : Held S) × IsRun text (state g old) (state g mid) × AreRun more mid new

  -- what the statement does to a database of this schema
  abbrev pub Does : List ℕ → Schema → (Database → Database → Type 0) → Type 0
  Does text schema what =
      (old new : Held S) → (state g old).now.schema ≡ schema → IsRun text (state g old) (state g new) → what (state g old).now (state g new).now

-- There is one table more, whose name was free, with no row in it, and the rows of the others are as they were. The texts stay of
-- triggers and of what SQL here doesn't understand.
pub record IsAdded (schema : Schema) (table : Table) (old new : Database) : Type 0 where
  pub free : is_used schema table.name ≡ false
  pub schema_is : new.schema ≡ created schema table
  pub empty : new.trees (next_tree schema) ≡ []
  pub others : KeepsRows schema.tables old.trees new.trees
  pub texts : KeepsForeign (old.trees catalog_tree) (new.trees catalog_tree)

-- The statement makes this table, whatever tables there are; where one of them counts (AUTOINCREMENT), SQLite's own table of
-- counts is among them, as SQLite leaves it.
abbrev pub Adds : {S : Type 0} → Ghosts S → List ℕ → Table → Type 0
Adds g text table = (schema : Schema) → lacks_sequence schema ≡ false → Does g text schema (IsAdded schema table)

-- the rows of one of our tables were written, and no other table's
pub record IsWritten (schema : Schema) (tree : ℕ) (old new : Database) : Type 0 where
  pub schema_is : new.schema ≡ schema
  pub sound : IsDatabase new
  pub others : (t : ℕ) → (t == tree) ≡ false → IsNoIndex schema t → new.trees t ≡ old.trees t

-- in a table without rows
abbrev pub PutsFirstNumbers : Database → Database → Type 0
PutsFirstNumbers old new = old.trees 0 ≡ [] → IsWritten shop_schema 0 old new × AreRows 1 (map meta_row (meta_entries fresh)) (new.trees 0)

-- the totals of version 1, where nothing was returned, to a table without rows
abbrev pub CopiesTotals : Database → Database → Type 0
CopiesTotals old new =
    (sums : FinMap code_cmp Totals) → AllByRecursion HasNoneReturned (entries sums)
    → AreRows 1 (map earlier_row (entries sums)) (old.trees 15) → old.trees 17 ≡ []
    → IsWritten second_schema 17 old new × AreRows 1 (map totals_row (entries sums)) (new.trees 17)

abbrev pub ClearsTotals : Database → Database → Type 0
ClearsTotals old new = AllByRecursion (λ r. IsTrue (is_int (rowid r))) (old.trees 15) → IsWritten second_schema 15 old new × (new.trees 15 ≡ [])

abbrev pub SetsVersion : Database → Database → Type 0
SetsVersion old new =
    (m : Content) → AreRows 1 (map meta_row (earlier_entries m)) (old.trees 0)
    → IsWritten second_schema 0 old new × AreRows 1 (map meta_row (second_entries m)) (new.trees 0)

-- version 3 in place of version 2, once its tables are made
abbrev pub SetsLastVersion : Database → Database → Type 0
SetsLastVersion old new =
    (m : Content) → AreRows 1 (map meta_row (second_entries m)) (old.trees 0)
    → IsWritten shop_schema 0 old new × AreRows 1 (map meta_row (meta_entries m)) (new.trees 0)
