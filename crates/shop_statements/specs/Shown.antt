-- When a connection holds a content, and what a call on it keeps.
use Rattle.std.specs.Prelude.{◌≡◌, ℕ, pos, List, [], ◌∷◌, IsTrue, IfSome, Contains, Option, Some, None, Ok, option_map}
use Rattle.sqlite_value.specs.declared.value.Value.TheVariants.{Int}
use Rattle.std.specs.Option.{option_to_list}
use Rattle.sqlite_value.specs.Order.{Row}
use Rattle.std.specs.FinMap.{FinMap, empty}
use Rattle.sqlite_trees.specs.Tree.{Trees}
use Rattle.sqlite.specs.State.{State, HasCleanDisk, KeepsCommit, Survives, Shown, Executes}
use Rattle.sqlite.specs.Effect.{IsDatabase}
use Rattle.sqlite_catalog.specs.Listing.{IsSound}
use Rattle.sqlite_schema.specs.declared.schema.Schema.{Schema}
use Rattle.cut_measure.specs.Codes.{code_cmp}
use Rattle.shop_records.specs.Content.{Content, fresh}
use Rattle.shop_records.specs.declared.records.Totals.{Totals}
use Rattle.shop_statements.specs.Layout.{HasShopTables, shop_schema}
use Rattle.shop_statements.specs.Rows.{Stands, IsKeyed, use_cmp}

-- what the tables stand for: a content, a row of totals for each material, and the orders of which a job's plan has a piece
pub record Books : Type 0 where
  pub content : Content
  pub totals : FinMap code_cmp Totals
  pub uses : FinMap use_cmp (Unit {0})

-- nothing was done yet
abbrev pub fresh_books : Books
fresh_books = record { content = fresh; totals = empty; uses = empty }

-- the rows that the connection sees stand for the books
pub record Shows (s : State) (b : Books) : Type 0 where
  pub schema : HasShopTables s.now.schema
  pub sound : IsDatabase s.now
  pub stands : Stands s.now.trees b.content b.totals b.uses
  pub keyed : IsKeyed b.content

-- Its tables are those of a new shop, with their keys, checks and references, and it has nothing else.
abbrev pub HasShopSchema : State → Type 0
HasShopSchema s = HasCleanDisk s → IsTrue s.is_open → s.now.schema ≡ shop_schema

-- and the last commit is what it sees
pub record IsSettled (s : State) (b : Books) : Type 0 where
  pub shows : Shows s b
  pub committed : s.now ≡ s.committed

-- The connection holds the books, unless a fault of the disk has shut it or other bytes were read than were written.
abbrev pub Holds : State → Books → Type 0
Holds s b = HasCleanDisk s → IsTrue s.is_open → IsSettled s b

-- The trees list a schema in which ours are the first tables, and these have the rows that stand for the books.
abbrev pub StandsIn : Trees → Books → Type 0
StandsIn db b = ((schema : Schema) × HasShopTables schema × IsSound schema db) × Stands db b.content b.totals b.uses × IsKeyed b.content

-- the connection was open, and where it saw its last commit it sees the same
pub record IsAsWas (old new : State) : Type 0 where
  pub was_open : IsTrue old.is_open
  pub now : old.now ≡ old.committed → new.now ≡ old.now
  pub committed : old.now ≡ old.committed → new.now ≡ new.committed

-- what a reading leaves: the books that were held, as whatever was settled, and no other trees after a crash
pub record Leaves (old new : State) : Type 0 where
  pub stays : (b : Books) → Holds old b → Holds new b
  pub as_was : HasCleanDisk new → IsTrue new.is_open → IsAsWas old new
  pub survives : Survives old new (λ _. ⊥)

-- what is said of books that were held holds, where the disk gave back what was written
abbrev pub OnBooks : State → State → (Books → Type 0) → Type 0
OnBooks old new what = HasCleanDisk new → (b : Books) → Holds old b → what b

-- a step inside a transaction, which goes on
pub record Ran (old new : State) : Type 0 where
  pub earlier : HasCleanDisk new → HasCleanDisk old
  pub on : HasCleanDisk new → IsTrue old.in_transaction → IsTrue old.is_open × IsTrue new.is_open × IsTrue new.in_transaction

-- steps inside a transaction, which goes on; there may be none
pub record Went (old new : State) : Type 0 where
  pub earlier : HasCleanDisk new → HasCleanDisk old
  pub mode : HasCleanDisk new → IsTrue old.in_transaction → IsTrue new.in_transaction
  pub stays_open : HasCleanDisk new → IsTrue old.in_transaction → IsTrue old.is_open → IsTrue new.is_open

-- it makes these books of those
abbrev pub Makes : State → State → Books → Books → Type 0
Makes old new before after = HasCleanDisk new → IsTrue old.in_transaction → Shows old before → Shows new after

-- what each step inside a transaction leaves: the last commit, and what a crash may leave
pub record Within (old new : State) : Type 0 where
  pub kept : HasCleanDisk new → KeepsCommit old new
  pub survives : Survives old new (λ _. ⊥)

-- this is a row that the query gave, and the one where it gave one at most
pub record GivesRow (sql : List ℕ) (params : Row) (old new : State) (row : Option Row) : Type 0 where
  pub rows : List Row
  pub shown : Shown sql params old new rows
  pub only : (o : Option Row) → rows ≡ option_to_list o → row ≡ o
  pub among : IfSome row (Contains rows)
  pub none : row ≡ None → rows ≡ []

-- the row of what was found, of which this is known
pub record IsRowOf {X : Type 0} (Is : X → Type 0) (columns : X → Row) (found : Option X) (row : Option Row) : Type 0 where
  pub shown : row ≡ option_map columns found
  pub known : (x : X) → found ≡ Some x → Is x

-- the row of a number
abbrev pub GivesNumber : ℕ → Option Row → Type 0
GivesNumber n row = row ≡ Some (Int (pos n) ∷ [])

-- the statement ran inside a transaction
abbrev pub HasExecuted : List ℕ → Row → State → State → Type 0
HasExecuted sql params old new = HasCleanDisk new → IsTrue old.in_transaction → (count : ℕ) × Executes sql params old new (Ok count)
