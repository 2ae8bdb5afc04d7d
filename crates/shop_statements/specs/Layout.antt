-- The tables, as their texts define them, and the schemas that have them in front.
use Rattle.std.specs.Prelude.{◌≡◌, ℕ, true, false, List, [], ◌∷◌, ◌++◌, take, codes, Some, None, Option}
use Rattle.std.specs.List.{AllByRecursion}
use Rattle.sqlite.specs.Collation.TheVariants.{Binary}
use Rattle.sqlite.specs.declared.types.Value.TheVariants.{Null}
use Rattle.sqlite.specs.Kind.{Kind}
use Rattle.sqlite.specs.Kind.TheVariants.{Integer, Text}
use Rattle.sqlite.specs.Table.{Table}
use Rattle.sqlite.specs.Schema.{Schema}
use Rattle.sqlite.specs.Term.{Term, op2, col}
use Rattle.sqlite.specs.Edit.{IsNoIndex}
use Rattle.sqlite.specs.Change.{created}
use Rattle.sqlite_value.specs.Keys.{plain}
use Rattle.sqlite_value.specs.declared.keys.Collation.TheVariants as by
use Rattle.sqlite_value.specs.declared.keys.Order.{Order}
use Rattle.sqlite_sql.specs.declared.ops.BinaryOp.TheVariants.{Compare, Arith}
use Rattle.sqlite_sql.specs.declared.ops.CompareOp.TheVariants.{Le}
use Rattle.sqlite_sql.specs.declared.ops.ArithOp.TheVariants.{Add}
use Rattle.sqlite_schema.specs.declared.schema.Column.{Column}
use Rattle.sqlite_schema.specs.declared.schema.Reference.{Reference}
use Rattle.sqlite_schema.specs.declared.schema.Action.TheVariants.{NoAction}

-- ---- columns and keys

-- each column is strict, and has a value
abbrev pub field : List ℕ → Kind → Column
field name kind = record { name = name; kind = kind; is_strict = true; not_null = true; default = Null; collation = Binary }

abbrev pub number : List ℕ → Column
number name = field name Integer

abbrev pub word : List ℕ → Column
word name = field name Text

-- these columns name a row of a parent, which a change of the parent leaves alone
abbrev pub refers : List ℕ → List ℕ → List (List ℕ) → Reference
refers columns parent parent_columns =
    record { columns = columns; parent = parent; parent_columns = parent_columns; on_delete = NoAction; on_update = NoAction; is_deferred = false }

abbrev pub table : List ℕ → ℕ → List Column → Option ℕ → List ℕ → List (List ℕ) → List Order → List Term → List Reference → Table
table name tree columns key primary uniques orders checks references =
    record {
      name = name;
      tree = tree;
      columns = columns;
      key = key;
      primary = primary;
      uniques = uniques;
      orders = orders;
      checks = checks;
      references = references;
      computed = [];
      stamps = record { places = []; terms = []; formats = [] };
      is_counted = false;
    }

-- a table whose first columns are its key
abbrev pub keyed : List ℕ → ℕ → List Column → List ℕ → List Reference → Table
keyed name tree columns primary references = table name tree columns None primary (primary ∷ []) (plain ∷ []) [] references

-- ---- the tables, in the order in which they are made; a tree's number is that of a new file

abbrev pub meta_table : Table
meta_table = keyed (codes "meta") 0 (word (codes "name") ∷ number (codes "value") ∷ []) (1 ∷ []) []

abbrev pub materials_table : Table
materials_table =
    keyed (codes "materials") 2
    (word (codes "code") ∷ number (codes "kind") ∷ number (codes "kerf") ∷ number (codes "min_long") ∷ number (codes "min_short") ∷ [])
    (1 ∷ []) []

abbrev pub parts_table : Table
parts_table =
    keyed (codes "parts") 4
    (number (codes "act") ∷ number (codes "node") ∷ word (codes "material") ∷ word (codes "batch") ∷ number (codes "root_act")
    ∷ number (codes "root_node") ∷ number (codes "x") ∷ number (codes "y") ∷ number (codes "w") ∷ number (codes "h")
    ∷ number (codes "state") ∷ number (codes "detail") ∷ [])
    (1 ∷ 2 ∷ []) (refers (3 ∷ []) (codes "materials") (codes "code" ∷ []) ∷ [])

abbrev pub jobs_table : Table
jobs_table =
    table (codes "jobs") 6
    (number (codes "job") ∷ number (codes "part_act") ∷ number (codes "part_node") ∷ word (codes "tree") ∷ number (codes "state") ∷ [])
    (Some 0) (0 ∷ []) [] [] [] (refers (2 ∷ 3 ∷ []) (codes "parts") (codes "act" ∷ codes "node" ∷ []) ∷ [])

abbrev pub orders_table : Table
orders_table = keyed (codes "orders") 7 (word (codes "ord") ∷ []) (1 ∷ []) []

abbrev pub demands_table : Table
demands_table =
    table (codes "demands") 9
    (number (codes "number") ∷ word (codes "ord") ∷ number (codes "line") ∷ word (codes "material") ∷ number (codes "w")
    ∷ number (codes "h") ∷ number (codes "turn") ∷ number (codes "worth") ∷ number (codes "wanted") ∷ number (codes "reserved")
    ∷ number (codes "made") ∷ [])
    (Some 0) (0 ∷ []) ((2 ∷ 3 ∷ []) ∷ []) (plain ∷ [])
    (op2 (Compare Le by.Binary) (op2 (Arith Add) (col 1 10) (col 1 11)) (col 1 9) ∷ [])
    (refers (2 ∷ []) (codes "orders") (codes "ord" ∷ []) ∷ refers (4 ∷ []) (codes "materials") (codes "code" ∷ []) ∷ [])

abbrev pub kept_table : Table
kept_table =
    keyed (codes "kept") 11
    (number (codes "terminal") ∷ number (codes "number") ∷ word (codes "command") ∷ word (codes "reply") ∷ []) (1 ∷ 2 ∷ []) []

abbrev pub imports_table : Table
imports_table =
    keyed (codes "imports") 13
    (word (codes "ord") ∷ number (codes "form") ∷ word (codes "material") ∷ word (codes "body") ∷ word (codes "reply") ∷ [])
    (1 ∷ []) (refers (1 ∷ []) (codes "orders") (codes "ord" ∷ []) ∷ [])

abbrev pub totals_columns : List Column
totals_columns =
    word (codes "material") ∷ number (codes "received") ∷ number (codes "stock") ∷ number (codes "rack") ∷ number (codes "pieces")
    ∷ number (codes "kerf") ∷ number (codes "scrap") ∷ []

abbrev pub totals_table : Table
totals_table = keyed (codes "totals") 15 totals_columns (1 ∷ []) (refers (1 ∷ []) (codes "materials") (codes "code" ∷ []) ∷ [])

abbrev pub totals2_table : Table
totals2_table =
    keyed (codes "totals2") 17 (totals_columns ++ number (codes "returned") ∷ []) (1 ∷ [])
    (refers (1 ∷ []) (codes "materials") (codes "code" ∷ []) ∷ [])

abbrev pub journal_table : Table
journal_table =
    table (codes "journal") 19
    (number (codes "entry") ∷ number (codes "at") ∷ number (codes "terminal") ∷ number (codes "number") ∷ word (codes "word")
    ∷ number (codes "act") ∷ number (codes "job") ∷ word (codes "ord") ∷ number (codes "part_act") ∷ number (codes "part_node") ∷ [])
    (Some 0) (0 ∷ []) [] [] [] []

abbrev pub uses_table : Table
uses_table = keyed (codes "uses") 20 (number (codes "job") ∷ word (codes "ord") ∷ []) (1 ∷ 2 ∷ []) []

abbrev pub notes_table : Table
notes_table =
    keyed (codes "notes") 22 (word (codes "ord") ∷ number (codes "due") ∷ word (codes "body") ∷ []) (1 ∷ [])
    (refers (1 ∷ []) (codes "orders") (codes "ord" ∷ []) ∷ [])

abbrev pub begun_table : Table
begun_table =
    table (codes "begun") 24 (number (codes "job") ∷ number (codes "terminal") ∷ []) (Some 0) (0 ∷ []) [] [] []
    (refers (0 ∷ []) (codes "jobs") (codes "job" ∷ []) ∷ [])

abbrev pub halts_table : Table
halts_table =
    table (codes "halts") 25 (number (codes "job") ∷ word (codes "body") ∷ []) (Some 0) (0 ∷ []) [] [] []
    (refers (0 ∷ []) (codes "jobs") (codes "job" ∷ []) ∷ [])

-- their trees
abbrev pub our_trees : List ℕ
our_trees = 0 ∷ 2 ∷ 4 ∷ 6 ∷ 7 ∷ 9 ∷ 11 ∷ 13 ∷ 15 ∷ 17 ∷ 19 ∷ 20 ∷ 22 ∷ 24 ∷ 25 ∷ []

abbrev pub no_schema : Schema
no_schema = record { tables = []; indexes = []; views = [] }

-- the tables are made one after another
abbrev pub created_all : List Table → Schema → Schema
created_all [] schema = schema
created_all (t ∷ more) schema = created_all more (created schema t)

-- ours, in the order in which they are made
abbrev pub our_tables : List Table
our_tables =
    meta_table ∷ materials_table ∷ parts_table ∷ jobs_table ∷ orders_table ∷ demands_table ∷ kept_table ∷ imports_table ∷ totals_table
    ∷ totals2_table ∷ journal_table ∷ uses_table ∷ notes_table ∷ begun_table ∷ halts_table ∷ []

-- the first so many of them, and nothing else
abbrev pub laid : ℕ → Schema
laid count = created_all (take count our_tables) no_schema

abbrev pub shop_schema : Schema
shop_schema = laid 15

-- ---- a schema in which ours are the first tables

-- what of a table no meaning of a statement depends on that was carried out
pub record Loose : Type 0 where
  pub primary : List ℕ
  pub uniques : List (List ℕ)
  pub orders : List Order
  pub checks : List Term
  pub references : List Reference

abbrev pub loosened : Loose → Table → Table
loosened l t =
    record t { primary = l.primary; uniques = l.uniques; orders = l.orders; checks = l.checks; references = l.references }

-- a change of a parent leaves the rows alone that name it
abbrev pub Rests : Reference → Type 0
Rests ref = (ref.on_delete ≡ NoAction) × (ref.on_update ≡ NoAction)

-- Ours are the first fifteen, and others may stand after them. No index of others has one of our trees, and no reference acts.
pub record HasShopTables (schema : Schema) : Type 0 where
  pub meta : Loose
  pub materials : Loose
  pub parts : Loose
  pub jobs : Loose
  pub orders : Loose
  pub demands : Loose
  pub kept : Loose
  pub imports : Loose
  pub totals : Loose
  pub totals2 : Loose
  pub journal : Loose
  pub uses : Loose
  pub notes : Loose
  pub begun : Loose
  pub halts : Loose
  pub others : List Table
  pub tables :
      schema.tables
      ≡ loosened meta meta_table ∷ loosened materials materials_table ∷ loosened parts parts_table ∷ loosened jobs jobs_table
      ∷ loosened orders orders_table ∷ loosened demands demands_table ∷ loosened kept kept_table ∷ loosened imports imports_table
      ∷ loosened totals totals_table ∷ loosened totals2 totals2_table ∷ loosened journal journal_table ∷ loosened uses uses_table
      ∷ loosened notes notes_table ∷ loosened begun begun_table ∷ loosened halts halts_table ∷ others
  pub bare : AllByRecursion (IsNoIndex schema) our_trees
  pub rests : AllByRecursion (λ t. AllByRecursion Rests t.references) schema.tables
