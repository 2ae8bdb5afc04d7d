-- Tables of versions 1 and 2 with others behind them, and what becomes of them.
use Rattle.std.specs.Prelude.{◌≡◌, false, List, [], ◌∷◌, ◌++◌, take, drop, length, map, IsTrue}
use Rattle.std.specs.List.{AllByRecursion}
use Rattle.std.specs.FinMap.{FinMap, entries}
use Rattle.sqlite_trees.specs.Objects.{catalog_tree}
use Rattle.sqlite_trees.specs.Tree.{Trees}
use Rattle.sqlite.specs.Table.{Table}
use Rattle.sqlite.specs.Change.{created, next_tree}
use Rattle.sqlite.specs.Effect.{Database, IsDatabase}
use Rattle.sqlite.specs.Does.{lacks_sequence}
use Rattle.sqlite.specs.State.{State, HasCleanDisk}
use Rattle.sqlite_catalog.specs.Calls.{KeepsForeign}
use Rattle.sqlite_schema.specs.declared.schema.Schema.{Schema}
use Rattle.cut_measure.specs.Codes.{code_cmp}
use Rattle.shop_records.specs.Content.{Content}
use Rattle.shop_records.specs.declared.records.Totals.{Totals}
use Rattle.shop_statements.specs.Beside.{IsNone}
use Rattle.shop_statements.specs.Earlier.{earlier_entries, earlier_row, second_entries, HasNoneReturned}
use Rattle.shop_statements.specs.Layout.{Rests, created_all, our_tables, totals2_table}
use Rattle.shop_statements.specs.Rows.{AreRows, meta_entries, meta_row, totals_row}
use Rattle.shop_tables.specs.Adopting.{HoldsMade, StandsMade}

-- Those of version 1 are the first nine, and others may stand after them, none of whose references acts: so do the totals of
-- version 2.
pub record HasEarlierTables (schema : Schema) : Type 0 where
  pub others : List Table
  pub tables : schema.tables ≡ take 9 our_tables ++ others
  pub rests : AllByRecursion (λ t. AllByRecursion Rests t.references) others

-- While it is open, the connection sees such tables, and SQLite's own table of counts if one of them counts (AUTOINCREMENT), as
-- SQLite leaves it.
abbrev pub SeesEarlier : State → Type 0
SeesEarlier s = HasCleanDisk s → IsTrue s.is_open → HasEarlierTables s.now.schema × (lacks_sequence s.now.schema ≡ false)

-- Version 2's totals were made behind the tables that were there, and have the rows of version 1's, of which 0 was returned;
-- those have no row. The version is 2, and the other numbers are as they were. Every other table has the rows that it had. The
-- indexes and the views are there as well, and the texts of triggers and of what SQL here doesn't understand.
pub record IsRenewed (old new : Database) : Type 0 where
  pub schema : new.schema ≡ created old.schema totals2_table
  pub sound : IsDatabase new
  pub others : AllByRecursion (λ t. IsNone (0 ∷ 15 ∷ []) t.tree → new.trees t.tree ≡ old.trees t.tree) old.schema.tables
  pub texts : KeepsForeign (old.trees catalog_tree) (new.trees catalog_tree)
  pub numbers : (m : Content) → AreRows 1 (map meta_row (earlier_entries m)) (old.trees 0) → AreRows 1 (map meta_row (second_entries m)) (new.trees 0)
  pub totals :
      (sums : FinMap code_cmp Totals) → AllByRecursion HasNoneReturned (entries sums) → AreRows 1 (map earlier_row (entries sums)) (old.trees 15)
      → (new.trees 15 ≡ []) × AreRows 1 (map totals_row (entries sums)) (new.trees (next_tree old.schema))

-- those that came with version 3, made behind the tables that are there
unfoldable pub with_last : Schema → Schema
with_last schema = created_all (drop 10 our_tables) schema

-- Version 3's tables were made behind the tables that were there, and have no row. The version is 3, and the other numbers are as
-- they were. Every other table has the rows that it had. The indexes and the views are there as well, and the texts of triggers
-- and of what SQL here doesn't understand.
pub record IsExtended (old new : Database) : Type 0 where
  pub schema : new.schema ≡ with_last old.schema
  pub sound : IsDatabase new
  pub others : AllByRecursion (λ t. IsNone (0 ∷ []) t.tree → new.trees t.tree ≡ old.trees t.tree) old.schema.tables
  pub texts : KeepsForeign (old.trees catalog_tree) (new.trees catalog_tree)
  pub numbers : (m : Content) → AreRows 1 (map meta_row (second_entries m)) (old.trees 0) → AreRows 1 (map meta_row (meta_entries m)) (new.trees 0)
  pub empty : AllByRecursion (λ t. new.trees t.tree ≡ []) (drop (length old.schema.tables) new.schema.tables)

-- from version 1 to version 2, and from it to version 3
pub record IsBroughtOn (old new : Database) : Type 0 where
  pub second : Database
  pub renewed : IsRenewed old second
  pub extended : IsExtended second new

-- the connection was open, and the trees are those of a database to which its own was brought
abbrev pub StandsRenewed : State → Trees → Type 0
StandsRenewed s db = IsTrue s.is_open × StandsMade IsBroughtOn s.now db

abbrev pub HoldsRenewed : State → State → Type 0
HoldsRenewed = HoldsMade IsBroughtOn

abbrev pub StandsExtended : State → Trees → Type 0
StandsExtended s db = IsTrue s.is_open × StandsMade IsExtended s.now db

abbrev pub HoldsExtended : State → State → Type 0
HoldsExtended = HoldsMade IsExtended
