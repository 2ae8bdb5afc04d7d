-- Parts that are visited one row at a time.
use Rattle.std.specs.Prelude.{◌≡◌, ◌⊎◌, ℕ, Bool, true, false, List, [], ◌∷◌, ◌++◌, ⊤, IsTrue, IfOk, Result, Ok, Err}
use Rattle.sqlite_value.specs.Order.{Row}
use Rattle.sqlite_trees.specs.declared.store.Store.{Ghosts}
use Rattle.sqlite.specs.Held.{Held, state}
use Rattle.sqlite.specs.State.{HasCleanDisk, Shown, Begins}
use Rattle.cut_measure.specs.Names.{Name}
use Rattle.shop_records.specs.declared.records.Part.{Part}
use Rattle.shop_records.specs.Visits.{HasSeen}
use Rattle.shop_statements.specs.declared.faults.TableFault.{TableFault}
use Rattle.shop_statements.specs.declared.faults.TableFault.TheVariants as fault
use Rattle.shop_tables.specs.declared.visiting.VisitEnd.{VisitEnd}
use Rattle.shop_tables.specs.declared.visiting.VisitEnd.TheVariants as borrowed
use Rattle.shop_statements.specs.Found.{columns_of}
use Rattle.shop_statements.specs.Rows.{part_row}
use Rattle.shop_tables.specs.ListedRows.{listed_part}
use Rattle.shop_statements.specs.Shown.{Books, Holds, IsAsWas}
use Rattle.shop_tables.specs.Invalid.{IsNoPart}

-- the part is the one that the row is of, which has its columns
abbrev pub IsReadOf : Row → Part → Type 0
IsReadOf row part = ((e : Name × Part) → row ≡ part_row e → part ≡ record e.1 { name = e.0 }) × (columns_of 12 0 row ≡ listed_part part)

-- each part is of its row
abbrev pub AreReadOf : List Row → List Part → Type 0
AreReadOf [] [] = ⊤
AreReadOf [] (p ∷ parts) = ⊥
AreReadOf (r ∷ rows) [] = ⊥
AreReadOf (r ∷ rows) (p ∷ parts) = IsReadOf r p × AreReadOf rows parts

-- whether each part was answered true
abbrev pub went_on : VisitEnd → Bool
went_on borrowed.All = true
went_on borrowed.Stopped = false
went_on borrowed.Invalid = true

-- how far the parts were handed out; a row that is no part is a fault
abbrev pub gone_through : Result VisitEnd TableFault → Result Bool TableFault
gone_through (Ok borrowed.All) = Ok true
gone_through (Ok borrowed.Stopped) = Ok false
gone_through (Ok borrowed.Invalid) = Err fault.Store
gone_through (Err e) = Err e

module _ {S : Type 0} (g : Ghosts S) (sql : List ℕ) (params : Row) (old : Held S) where
  -- an open connection that holds what was held
  pub record IsHeldAt (mid : Held S) : Type 0 where
    pub clean : HasCleanDisk (state g mid)
    pub is_open : IsTrue (state g mid).is_open
    pub stays : (b : Books) → Holds (state g old) b → Holds (state g mid) b
    pub as_was : IsAsWas (state g old) (state g mid)

  -- the rows are the first of the answer
  abbrev pub Starts : List Row → Type 0
  Starts given = (given ≡ []) ⊎ ((mid : Held S) × IsHeldAt mid × Begins sql params (state g mid) given)

  -- the rows are the answer
  abbrev pub Answers : List Row → Type 0
  Answers given = (mid : Held S) × (next : Held S) × IsHeldAt mid × Shown sql params (state g mid) (state g next) given

  -- The parts of the first rows were handed to the visitor, and led it to what it is. The result says how far: to the end,
  -- or to where the visitor or a row stopped it.
  pub record IsBorrowed {V : Type 0} (looks : V → Part → Bool → V → Type 0) (new : Held S) (before : V) (result : Result VisitEnd TableFault) (after : V) : Type 0 where
    pub given : List Row
    pub parts : List Part
    pub read : AreReadOf given parts
    pub on : Bool
    pub visitor : HasSeen looks parts on before after
    pub reported : IfOk result (λ how. on ≡ went_on how)
    pub begins : HasCleanDisk (state g new) → Starts given
    pub whole : HasCleanDisk (state g new) → IfOk result (λ how. how ≡ borrowed.All → Answers given)
    pub invalid : HasCleanDisk (state g new) → IfOk result (λ how. how ≡ borrowed.Invalid → (row : Row) × IsNoPart row × Starts (given ++ row ∷ []))
