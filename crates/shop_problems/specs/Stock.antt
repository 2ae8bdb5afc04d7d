-- The material and the sizes from which the lines of an order file are planned.
use Rattle.std.specs.Prelude.{◌≡◌, ℕ, suc, ◌*◌, ◌<◌, ◌⊎◌, ◌==◌, ◌&&◌, ◌||◌, ◌++◌, not, Bool, false, true, List, [], ◌∷◌, codes, if◌then◌else◌, is_some, length, map, take, Option, Some, None}
use Rattle.std.specs.List.{after_first, before_first, find, list_any, position_or_len}
use Rattle.std.specs.Str.{bytes_eq}
use Rattle.cut_measure.specs.Lengths.{IsLengthText, mm_text}
use Rattle.cut_measure.specs.Measures.{Size, CutParams, params_of, size_of}
use Rattle.cut_measure.specs.declared.sizes.Kind.{Kind}
use Rattle.cut_measure.specs.declared.sizes.Kind.TheVariants.{Bar, Sheet}
use Rattle.cut_bound.specs.declared.stock.StockSize.{StockSize}
use Rattle.shop_files.specs.declared.shops.MaterialEntry.{MaterialEntry}
use Rattle.shop_problems.specs.declared.stock.BadEntry.{BadEntry}
use Rattle.shop_problems.specs.declared.stock.EntryFault.{EntryFault}
use Rattle.shop_problems.specs.declared.stock.EntryFault.TheVariants.{Bad, Exists}
use Rattle.shop_problems.specs.declared.stock.StockMaterial.{StockMaterial}

-- ---- the entries of a shop file

abbrev pub same_kind : Kind → Kind → Bool
same_kind Bar Bar = true
same_kind Bar Sheet = false
same_kind Sheet Bar = false
same_kind Sheet Sheet = true

abbrev pub same_values : MaterialEntry → MaterialEntry → Bool
same_values a b = same_kind a.kind b.kind && a.kerf == b.kerf && a.min_long == b.min_long && a.min_short == b.min_short

-- one of these has the entry's code, and other values
abbrev pub is_other : MaterialEntry → (before : List MaterialEntry) → Bool
is_other entry before = list_any (λ (e : MaterialEntry). bytes_eq e.code entry.code && not (same_values e entry)) before

-- the limits of an entry, where they are in range for its kind
abbrev pub limits_of : MaterialEntry → Option CutParams
limits_of e = params_of e.kind e.kerf e.min_long e.min_short

-- why a shop that has the entries before it refuses an entry
abbrev pub entry_fault : MaterialEntry → (before : List MaterialEntry) → Option EntryFault
entry_fault entry before = if not (is_some (limits_of entry)) then Some Bad else if is_other entry before then Some Exists else None

abbrev pub bad_or : (place : ℕ) → Option EntryFault → Option BadEntry → Option BadEntry
bad_or place None later = later
bad_or place (Some fault) later = Some (record { entry = suc place; fault = fault })

-- the first that is refused of the entries behind so many others of them all
abbrev pub first_bad_from : (all : List MaterialEntry) → (place : ℕ) → List MaterialEntry → Option BadEntry
first_bad_from all place [] = None
first_bad_from all place (entry ∷ more) = bad_or place (entry_fault entry (take place all)) (first_bad_from all (suc place) more)

-- the first entry that a shop refuses which has those before it
abbrev pub first_bad_entry : List MaterialEntry → Option BadEntry
first_bad_entry entries = first_bad_from entries 0 entries

-- ---- the material

-- the first entry of a code
abbrev pub entry_in : List MaterialEntry → (material : List ℕ) → Option MaterialEntry
entry_in entries material = find (λ (e : MaterialEntry). bytes_eq e.code material) entries

abbrev pub with_limits : Kind → Option CutParams → Option StockMaterial
with_limits kind None = None
with_limits kind (Some limits) = Some (record { kind = kind; limits = limits })

abbrev pub material_of : Option MaterialEntry → Option StockMaterial
material_of None = None
material_of (Some e) = with_limits e.kind (limits_of e)

-- the material of a code: that of its first entry, where its values are in range
abbrev pub material_in : List MaterialEntry → (material : List ℕ) → Option StockMaterial
material_in entries material = material_of (entry_in entries material)

-- ---- sizes

-- a length alone is a bar's size
abbrev pub IsBarText : List ℕ → Size → Type 0
IsBarText text size = (w : ℕ) × IsLengthText text w × (size_of Bar w 1 ≡ Some size)

-- two texts that say the sides of a sheet
abbrev pub AreSides : (first second : List ℕ) → Size → Type 0
AreSides first second size = (w h : ℕ) × IsLengthText first w × IsLengthText second h × (size_of Sheet w h ≡ Some size)

abbrev pub is_x : ℕ → Bool
is_x b = b == 120

-- what stands before a text's first `x`, and what stands behind it, say the sides
abbrev pub IsSheetText : List ℕ → Size → Type 0
IsSheetText text size = (position_or_len is_x text < length text) × AreSides (before_first is_x text) (after_first is_x text) size

-- the text says this size of a unit of the kind
abbrev pub IsSizeText : Kind → List ℕ → Size → Type 0
IsSizeText Bar text size = IsBarText text size
IsSizeText Sheet text size = IsSheetText text size

-- the texts say these sizes, one each
abbrev pub AreSizes : Kind → List (List ℕ) → List Size → Type 0
AreSizes kind [] [] = Unit {0}
AreSizes kind [] (size ∷ sizes) = ⊥
AreSizes kind (text ∷ texts) [] = ⊥
AreSizes kind (text ∷ texts) (size ∷ sizes) = IsSizeText kind text size × AreSizes kind texts sizes

-- one of the texts says no size
abbrev pub HasBadSize : Kind → List (List ℕ) → Type 0
HasBadSize kind [] = ⊥
HasBadSize kind (text ∷ texts) = ((size : Size) → IsSizeText kind text size → ⊥) ⊎ HasBadSize kind texts

abbrev pub same_size : Size → Size → Bool
same_size a b = a.w == b.w && a.h == b.h

-- a size stands twice
abbrev pub has_twice : List Size → Bool
has_twice [] = false
has_twice (size ∷ sizes) = list_any (λ (other : Size). same_size other size) sizes || has_twice sizes

-- ---- the stock

-- a unit costs 1 where there is no other size, so that costs are numbers of units, and else its cells
abbrev pub cost_of : Size → (single : Bool) → ℕ
cost_of size single = if single then 1 else size.w * size.h

-- as many units of each of these sizes as are wanted, where that is a single size, or not
abbrev pub stock_at : (single : Bool) → List Size → List StockSize
stock_at single sizes = map (λ (size : Size). record { size = size; cost = cost_of size single; limit = None }) sizes

abbrev pub stock_of : List Size → List StockSize
stock_of sizes = stock_at (length sizes == 1) sizes

-- a bar's length, or a sheet's sides
abbrev pub size_text : Kind → Size → List ℕ
size_text Bar size = mm_text size.w
size_text Sheet size = mm_text size.w ++ codes "x" ++ mm_text size.h
