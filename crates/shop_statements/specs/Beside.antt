-- What a writing leaves alone.
use Rattle.std.specs.Prelude.{◌≡◌, ◌≢◌, ℕ, List, IsTrue}
use Rattle.std.specs.List.{AllByRecursion}
use Rattle.sqlite.specs.Tree.{Trees}
use Rattle.sqlite.specs.Schema.{Schema}
use Rattle.sqlite.specs.Edit.{IsNoIndex}
use Rattle.sqlite.specs.Effect.{Database}
use Rattle.sqlite.specs.State.{State, HasCleanDisk}
use Rattle.shop_statements.specs.Layout.{HasShopTables}

-- the tree is none of these
abbrev pub IsNone : List ℕ → ℕ → Type 0
IsNone own tree = AllByRecursion (λ t. t ≢ tree) own

-- Each table of the schema has the rows that it had, but those with one of these trees, and so has each other tree that is no
-- index's, as the list of the tables itself.
pub record SparesRows (own : List ℕ) (schema : Schema) (old new : Trees) : Type 0 where
  pub tables : AllByRecursion (λ t. IsNone own t.tree → new t.tree ≡ old t.tree) schema.tables
  pub others : (t : ℕ) → IsNone own t → IsNoIndex schema t → new t ≡ old t

-- and the tables, indexes and views are the same
pub record IsSameBeside (own : List ℕ) (old new : Database) : Type 0 where
  pub schema : new.schema ≡ old.schema
  pub rows : SparesRows own old.schema old.trees new.trees

-- steps inside a transaction change nothing but the tables with these trees
abbrev pub Spares : List ℕ → State → State → Type 0
Spares own old new = HasCleanDisk new → IsTrue old.in_transaction → HasShopTables old.now.schema → IsSameBeside own old.now new.now
