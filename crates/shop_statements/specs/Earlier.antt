-- The tables of versions 1 and 2, and what they stand for: a content without what came with version 3.
use Rattle.std.specs.Prelude.{◌≡◌, ◌≢◌, ◌⊎◌, ℕ, pos, List, [], ◌∷◌, map, codes, IsTrue, Some}
use Rattle.std.specs.List.{AllByRecursion}
use Rattle.std.specs.FinMap.{FinMap, empty, entries}
use Rattle.sqlite_value.specs.declared.value.Value.TheVariants.{Int, Text}
use Rattle.sqlite_value.specs.Order.{Row}
use Rattle.sqlite_trees.specs.Tree.{Trees}
use Rattle.sqlite_schema.specs.declared.schema.Schema.{Schema}
use Rattle.sqlite_catalog.specs.Listing.{IsSound}
use Rattle.sqlite.specs.Effect.{IsDatabase}
use Rattle.sqlite.specs.State.{State, HasCleanDisk}
use Rattle.cut_measure.specs.Codes.{code_cmp}
use Rattle.cut_measure.specs.Names.{Name}
use Rattle.shop_records.specs.Content.{Content, job_at, part_at}
use Rattle.shop_records.specs.declared.records.Job.{Job}
use Rattle.shop_records.specs.declared.records.Part.{Part}
use Rattle.shop_records.specs.declared.records.Totals.{Totals}
use Rattle.shop_statements.specs.Layout.{HasShopTables, laid}
use Rattle.shop_statements.specs.Rows.{AreRows, AreOrders, IsKeyed, state_number, job_state_number, meta_row, material_row, part_row, job_row, demand_row, kept_row, import_row, totals_row}
use Rattle.shop_statements.specs.Shown.{Books, Holds}

-- Nothing is said of an order, no job is begun, none's halt is kept, and no part and no job is undone: their states' numbers
-- came with version 3.
pub record HasNoneLater (m : Content) : Type 0 where
  pub notes : m.notes ≡ empty
  pub begun : m.begun ≡ empty
  pub halts : m.halts ≡ empty
  pub parts : (name : Name) (part : Part) → part_at m name ≡ Some part → state_number part.state ≢ 7
  pub jobs : (number : ℕ) (job : Job) → job_at m number ≡ Some job → job_state_number job.state ≢ 4

-- Version 1 has these nine tables and nothing else.
abbrev pub earlier_schema : Schema
earlier_schema = laid 9

abbrev pub earlier_entries : Content → List (List ℕ × ℕ)
earlier_entries m = (codes "version", 1) ∷ (codes "act", m.last_act) ∷ (codes "demand", m.last_demand) ∷ []

-- a row of totals, which has nothing of what was returned
abbrev pub earlier_row : List ℕ × Totals → Row
earlier_row e =
    Text e.0 ∷ Int (pos e.1.received) ∷ Int (pos e.1.stock) ∷ Int (pos e.1.rack) ∷ Int (pos e.1.pieces) ∷ Int (pos e.1.kerf)
    ∷ Int (pos e.1.scrap) ∷ []

abbrev pub HasNoneReturned : List ℕ × Totals → Type 0
HasNoneReturned e = e.1.returned ≡ 0

-- The trees have the rows that stand for the content and the totals in version 1, in which nothing was returned, and there is
-- nothing that came later.
pub record StandsEarlier (db : Trees) (m : Content) (sums : FinMap code_cmp Totals) : Type 0 where
  pub meta : AreRows 1 (map meta_row (earlier_entries m)) (db 0)
  pub materials : AreRows 1 (map material_row (entries m.materials)) (db 2)
  pub parts : AreRows 1 (map part_row (entries m.parts)) (db 4)
  pub jobs : AreRows 0 (map job_row (entries m.jobs)) (db 6)
  pub orders : AreOrders m.orders (db 7)
  pub demands : AreRows 0 (map demand_row (entries m.demands)) (db 9)
  pub kept : AreRows 1 (map kept_row (entries m.kept)) (db 11)
  pub imports : AreRows 1 (map import_row (entries m.imports)) (db 13)
  pub totals : AreRows 1 (map earlier_row (entries sums)) (db 15)
  pub returned : AllByRecursion HasNoneReturned (entries sums)
  pub none : m.entries ≡ empty
  pub later : HasNoneLater m

-- the rows that the connection sees stand for the books in version 1
pub record ShowsEarlier (s : State) (b : Books) : Type 0 where
  pub schema : s.now.schema ≡ earlier_schema
  pub sound : IsDatabase s.now
  pub stands : StandsEarlier s.now.trees b.content b.totals
  pub keyed : IsKeyed b.content
  pub uses : b.uses ≡ empty

-- and the last commit is what it sees
pub record IsSettledEarlier (s : State) (b : Books) : Type 0 where
  pub shows : ShowsEarlier s b
  pub committed : s.now ≡ s.committed

-- The connection holds the books in version 1, unless a fault of the disk has shut it or other bytes were read than were written.
abbrev pub HoldsEarlier : State → Books → Type 0
HoldsEarlier s b = HasCleanDisk s → IsTrue s.is_open → IsSettledEarlier s b

-- the trees list the tables of version 1, which have the rows that stand for the books
abbrev pub StandsInEarlier : Trees → Books → Type 0
StandsInEarlier db b = IsSound earlier_schema db × StandsEarlier db b.content b.totals × IsKeyed b.content × (b.uses ≡ empty)

-- what is said of books that were held in version 1 holds, where the disk gave back what was written
abbrev pub OnBooksEarlier : State → State → (Books → Type 0) → Type 0
OnBooksEarlier old new what = HasCleanDisk new → (b : Books) → HoldsEarlier old b → what b

-- ---- version 2

-- Version 2 has these ten tables and nothing else.
abbrev pub second_schema : Schema
second_schema = laid 10

abbrev pub second_entries : Content → List (List ℕ × ℕ)
second_entries m = (codes "version", 2) ∷ (codes "act", m.last_act) ∷ (codes "demand", m.last_demand) ∷ []

-- The trees have the rows that stand for the content and the totals in version 2, in which there is no entry, and nothing else
-- that came later.
pub record StandsSecond (db : Trees) (m : Content) (sums : FinMap code_cmp Totals) : Type 0 where
  pub meta : AreRows 1 (map meta_row (second_entries m)) (db 0)
  pub materials : AreRows 1 (map material_row (entries m.materials)) (db 2)
  pub parts : AreRows 1 (map part_row (entries m.parts)) (db 4)
  pub jobs : AreRows 0 (map job_row (entries m.jobs)) (db 6)
  pub orders : AreOrders m.orders (db 7)
  pub demands : AreRows 0 (map demand_row (entries m.demands)) (db 9)
  pub kept : AreRows 1 (map kept_row (entries m.kept)) (db 11)
  pub imports : AreRows 1 (map import_row (entries m.imports)) (db 13)
  pub totals : db 15 ≡ []
  pub totals2 : AreRows 1 (map totals_row (entries sums)) (db 17)
  pub none : m.entries ≡ empty
  pub later : HasNoneLater m

-- the rows that the connection sees stand for the books in version 2
pub record ShowsSecond (s : State) (b : Books) : Type 0 where
  pub schema : s.now.schema ≡ second_schema
  pub sound : IsDatabase s.now
  pub stands : StandsSecond s.now.trees b.content b.totals
  pub keyed : IsKeyed b.content
  pub uses : b.uses ≡ empty

-- and the last commit is what it sees
pub record IsSettledSecond (s : State) (b : Books) : Type 0 where
  pub shows : ShowsSecond s b
  pub committed : s.now ≡ s.committed

-- The connection holds the books in version 2, unless a fault of the disk has shut it or other bytes were read than were written.
abbrev pub HoldsSecond : State → Books → Type 0
HoldsSecond s b = HasCleanDisk s → IsTrue s.is_open → IsSettledSecond s b

-- the trees list the tables of version 2, which have the rows that stand for the books
abbrev pub StandsInSecond : Trees → Books → Type 0
StandsInSecond db b = IsSound second_schema db × StandsSecond db b.content b.totals × IsKeyed b.content × (b.uses ≡ empty)

-- what is said of books that were held in version 2 holds, where the disk gave back what was written
abbrev pub OnBooksSecond : State → State → (Books → Type 0) → Type 0
OnBooksSecond old new what = HasCleanDisk new → (b : Books) → HoldsSecond old b → what b

-- ---- any version

-- the tables of version 3 stand in front, or those of version 2 or 1 stand alone
abbrev pub HasSomeTables : Schema → Type 0
HasSomeTables schema = HasShopTables schema ⊎ ((schema ≡ second_schema) ⊎ (schema ≡ earlier_schema))

-- The connection holds the books in version 3, in version 2 or in version 1.
abbrev pub HoldsEither : State → Books → Type 0
HoldsEither s b = Holds s b ⊎ (HoldsSecond s b ⊎ HoldsEarlier s b)

-- what is said of books that were held in any of the versions holds, where the disk gave back what was written
abbrev pub OnBooksEither : State → State → (Books → Type 0) → Type 0
OnBooksEither old new what = HasCleanDisk new → (b : Books) → HoldsEither old b → what b
