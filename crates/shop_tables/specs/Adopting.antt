-- What a connection is taken over from.
use Rattle.std.specs.Prelude.{◌≡◌, ◌⊎◌, ◌&&◌, ◌+◌, not, is_some, Bool, ℕ, pos, List, [], ◌∷◌, length, drop, filter, map, codes, IsTrue}
use Rattle.std.specs.List.{AllByRecursion}
use Rattle.sqlite_value.specs.declared.value.Value.TheVariants.{Int}
use Rattle.sqlite_value.specs.Order.{Row, column}
use Rattle.sqlite_trees.specs.Objects.{catalog_tree}
use Rattle.sqlite_trees.specs.Tree.{Trees}
use Rattle.sqlite.specs.Change.{next_tree, KeepsRows}
use Rattle.sqlite.specs.Effect.{Database, IsDatabase}
use Rattle.sqlite.specs.State.{State, HasCleanDisk}
use Rattle.sqlite_catalog.specs.Calls.{KeepsForeign}
use Rattle.sqlite_catalog.specs.Change.{is_used}
use Rattle.sqlite_schema.specs.Names.{table_named}
use Rattle.sqlite_schema.specs.declared.schema.Schema.{Schema}
use Rattle.shop_records.specs.Content.{fresh}
use Rattle.shop_statements.specs.Earlier.{ShowsSecond, earlier_schema, second_schema}
use Rattle.shop_statements.specs.Found.{IsNumberRow, are_equal}
use Rattle.shop_statements.specs.Layout.{no_schema, shop_schema, created_all, our_tables}
use Rattle.shop_statements.specs.Rows.{AreRows, meta_entries, meta_row}
use Rattle.shop_statements.specs.Shown.{Books, Shows, StandsIn}

abbrev pub is_table : Schema → List ℕ → Bool
is_table schema name = is_some (table_named schema name)

-- no table, index or view has the name of one that came with version 3
abbrev pub last_are_free : Schema → Bool
last_are_free schema = not (is_used schema (codes "journal")) && (not (is_used schema (codes "uses")) && (not (is_used schema (codes "notes")) && (not (is_used schema (codes "begun")) && not (is_used schema (codes "halts")))))

-- no table, index or view has a name of ours
abbrev pub names_are_free : Schema → Bool
names_are_free schema = not (is_used schema (codes "meta")) && (not (is_used schema (codes "materials")) && (not (is_used schema (codes "parts")) && (not (is_used schema (codes "jobs")) && (not (is_used schema (codes "orders")) && (not (is_used schema (codes "demands")) && (not (is_used schema (codes "kept")) && (not (is_used schema (codes "imports")) && (not (is_used schema (codes "totals")) && (not (is_used schema (codes "totals2")) && last_are_free schema)))))))))

-- each name of version 1 is that of a table
abbrev pub first_are_tables : Schema → Bool
first_are_tables schema = is_table schema (codes "meta") && (is_table schema (codes "materials") && (is_table schema (codes "parts") && (is_table schema (codes "jobs") && (is_table schema (codes "orders") && (is_table schema (codes "demands") && (is_table schema (codes "kept") && (is_table schema (codes "imports") && is_table schema (codes "totals"))))))))

-- each name of version 2 is that of a table
abbrev pub second_are_tables : Schema → Bool
second_are_tables schema = first_are_tables schema && is_table schema (codes "totals2")

-- each name that came with version 3 is that of a table
abbrev pub last_are_tables : Schema → Bool
last_are_tables schema = is_table schema (codes "journal") && (is_table schema (codes "uses") && (is_table schema (codes "notes") && (is_table schema (codes "begun") && is_table schema (codes "halts"))))

-- each name of ours is that of a table
abbrev pub names_are_tables : Schema → Bool
names_are_tables schema = second_are_tables schema && last_are_tables schema

-- each name of version 1 is that of a table, and no table, index or view has the name of one that came later
abbrev pub names_are_earlier : Schema → Bool
names_are_earlier schema = first_are_tables schema && (not (is_used schema (codes "totals2")) && last_are_free schema)

-- each name of version 2 is that of a table, and no table, index or view has the name of one that came later
abbrev pub names_are_second : Schema → Bool
names_are_second schema = second_are_tables schema && last_are_free schema

-- it has no table, index or view, and nothing is under way
abbrev pub IsVacant : State → Type 0
IsVacant s = HasCleanDisk s → IsTrue s.is_open → (s.now.schema ≡ no_schema) × (s.now ≡ s.committed)

-- a row of `meta` says that the tables are of this version
abbrev pub HasVersion : State → ℕ → Type 0
HasVersion s version = IsNumberRow s (codes "version") (Int (pos version) ∷ [])

-- the tables are those of version 2 or 1, and there is nothing else
abbrev pub HasEarlyTables : Schema → Type 0
HasEarlyTables schema = (schema ≡ second_schema) ⊎ (schema ≡ earlier_schema)

-- the row of a part has the state of an undone one
abbrev pub is_undone_part : Row → Bool
is_undone_part row = are_equal (column row 11) (Int (pos 7))

-- and that of a job
abbrev pub is_undone_job : Row → Bool
is_undone_job row = are_equal (column row 5) (Int (pos 4))

-- no row of a part or of a job has such a state
abbrev pub HasNoUndone : Trees → Type 0
HasNoUndone db = (filter is_undone_part (db 4) ≡ []) × (filter is_undone_job (db 6) ≡ [])

-- an open after a crash finds the books
abbrev pub LeavesBooks : State → Books → Type 0
LeavesBooks s b = HasCleanDisk s → (db : Trees) → s.may_leave db → StandsIn db b

-- The tables became those of a shop inside a transaction, which goes on, and stand for the books.
pub record MakesTables (old new : State) (b : Books) : Type 0 where
  pub earlier : HasCleanDisk new → HasCleanDisk old
  pub on : HasCleanDisk new → IsTrue old.is_open × IsTrue new.is_open × IsTrue new.in_transaction
  pub shows : HasCleanDisk new → Shows new b
  pub schema : HasCleanDisk new → new.now.schema ≡ shop_schema

-- The tables became those of version 2 inside a transaction, which goes on, and stand for the books.
pub record MakesSecond (old new : State) (b : Books) : Type 0 where
  pub earlier : HasCleanDisk new → HasCleanDisk old
  pub on : HasCleanDisk new → IsTrue old.is_open × IsTrue new.is_open × IsTrue new.in_transaction
  pub shows : HasCleanDisk new → ShowsSecond new b

-- ---- beside tables of others

-- ours, made behind the tables that are there
unfoldable pub with_ours : Schema → Schema
with_ours schema = created_all our_tables schema

-- Ours were made behind the tables that were there, which have the rows that they had. The indexes and the views are there as
-- well, and the texts of triggers and of what SQL here doesn't understand. Of ours the first has the numbers of a shop in which
-- nothing was done yet, and the others have no row.
pub record IsMadeBeside (old new : Database) : Type 0 where
  pub schema : new.schema ≡ with_ours old.schema
  pub sound : IsDatabase new
  pub others : KeepsRows old.schema.tables old.trees new.trees
  pub texts : KeepsForeign (old.trees catalog_tree) (new.trees catalog_tree)
  pub numbers : AreRows 1 (map meta_row (meta_entries fresh)) (new.trees (next_tree old.schema))
  pub empty : AllByRecursion (λ t. new.trees t.tree ≡ []) (drop (length old.schema.tables + 1) new.schema.tables)

-- the trees are those of a database that was made so of the old one
abbrev pub StandsMade : (Database → Database → Type 0) → Database → Trees → Type 0
StandsMade IsMade old db = (schema : Schema) × IsMade old (record { schema = schema; trees = db })

-- The connection, which was open, sees a database that was made so of the old one, and this is committed; an open after a crash
-- finds that alone.
pub record HoldsMade (IsMade : Database → Database → Type 0) (old new : State) : Type 0 where
  pub was_open : HasCleanDisk new → IsTrue old.is_open
  pub seen : HasCleanDisk new → IsTrue new.is_open → IsMade old.now new.now × (new.now ≡ new.committed)
  pub after : HasCleanDisk new → (db : Trees) → new.may_leave db → StandsMade IsMade old.now db

abbrev pub StandsBeside : Database → Trees → Type 0
StandsBeside = StandsMade IsMadeBeside

abbrev pub HoldsBeside : State → State → Type 0
HoldsBeside = HoldsMade IsMadeBeside

-- it sees what it saw when it was open, which is committed
abbrev pub IsAsBefore : State → State → Type 0
IsAsBefore old new = HasCleanDisk new → IsTrue new.is_open → (new.now ≡ old.now) × (new.now ≡ new.committed) × IsTrue old.is_open
