-- Tables of best worths, a row for each height.
use Rattle.std.specs.Prelude.{◌≡◌, ℕ, ◌+◌, ◌-◌, ◌*◌, ◌^◌, ◌<◌, ◌≤◌, Bool, false, List, map, length, max, slice_index, slice_index_or, Contains, Vec, Some, slice_get}
use Rattle.cut_sheets.specs.declared.sheet.Table.{Table}
use Rattle.cut_sheets.specs.declared.sheet.Table.TheVariants.{Narrow, Wide}
use Rattle.cut_sheets.specs.declared.read.Choice.{Choice}
use Rattle.cut_sheets.specs.declared.read.Choice.TheVariants.{Waste, Whole, CutX, CutY}
use Rattle.std.specs.declared.alloc.Global.{Global}
use Rattle.cut_wants.specs.declared.wants.Want.{Want}
use Rattle.cut_tree.specs.Tree.{Tree, count_of, Rest, Piece, Trim, Cut}
use Rattle.cut_measure.specs.declared.sizes.Axis.TheVariants.{X, Y}
use Rattle.cut_wants.specs.Legal.{Legal, HasSides, worth_of}
use Rattle.cut_wants.specs.Best.{IsBest, IsBestOf}

-- the greatest worth of a want with these sides, or 0
pub record IsPlainWorth (wants : List Want) (w h v : ℕ) : Type 0 where
  pub most : (x : Want) (turned : Bool) → Contains wants x → HasSides x turned w h → x.worth ≤ v
  pub found : 0 < v → (x : Want) × (turned : Bool) × Contains wants x × HasSides x turned w h × (x.worth ≡ v)

abbrev pub IsPlainRow : List Want → ℕ → List ℕ → Type 0
IsPlainRow wants h row = (w : ℕ) → w < length row → IsPlainWorth wants w h (slice_index row w)

-- a want was offered, upright or turned, to a row of this height
pub record IsOffered (x : Want) (turned : Bool) (h : ℕ) (old new : List ℕ) : Type 0 where
  pub kept : (w : ℕ) → slice_index old w ≤ slice_index new w
  pub most : (w : ℕ) → w < length old → HasSides x turned w h → x.worth ≤ slice_index new w
  pub found : (w : ℕ) → slice_index old w < slice_index new w → HasSides x turned w h × (x.worth ≡ slice_index new w)

abbrev pub IsStacked : List ℕ → List ℕ → List ℕ → List ℕ → Type 0
IsStacked old low high new =
    (p : ℕ) → p < length old → slice_index new p ≡ max (slice_index old p) (slice_index low p + slice_index high p)

-- a worth for each unit of width, all of which stay below the limit
pub record IsBelow (limit : ℕ) (row : List ℕ) : Type 0 where
  pub per : ℕ
  pub each : (p : ℕ) → p < length row → slice_index row p ≤ p * per
  pub below : (p : ℕ) → p < length row → p * per < limit

-- the sums of this part and each that isn't wider were offered to the places of their widths
pub record IsOfferedFrom (part : ℕ) (old new : List ℕ) : Type 0 where
  pub same : (k : ℕ) → k ≤ part → slice_index new k ≡ slice_index old k
  pub kept : (k : ℕ) → slice_index old k ≤ slice_index new k
  pub sums : (a : ℕ) → 1 ≤ a → a ≤ part → part + a < length old → slice_index old part + slice_index old a ≤ slice_index new (part + a)
  pub found : (k : ℕ) → slice_index old k < slice_index new k →
      (a : ℕ) × (1 ≤ a) × (a ≤ part) × (k ≡ part + a) × (slice_index new k ≡ slice_index old part + slice_index old a)

-- each place is the best sum of two parts that its width has room for, or what stood there
pub record IsJoined (old new : List ℕ) : Type 0 where
  pub kept : (p : ℕ) → p < length old → slice_index old p ≤ slice_index new p
  pub cuts : (p a : ℕ) → p < length old → 1 ≤ a → a + a ≤ p → slice_index new a + slice_index new (p - a) ≤ slice_index new p
  pub found : (p : ℕ) → p < length old → slice_index old p < slice_index new p →
      (a b : ℕ) × (a < p) × (b < p) × (a + b ≤ p) × (slice_index new p ≡ slice_index new a + slice_index new b)

-- the row has this many places, each with the best worth of its width
pub record IsBestRow (wants : List Want) (places h : ℕ) (row : List ℕ) : Type 0 where
  pub len : length row ≡ places
  pub best : (w : ℕ) → w < places → IsBestOf wants 0 w h (slice_index row w)

-- the rows of the heights from 0 on, their numbers having these worths
abbrev pub AreBestRows : {T : Type 0} → (T → ℕ) → List Want → ℕ → List (Vec T Global) → Type 0
AreBestRows {T = T} value wants places rows =
    (h : ℕ) (d : Vec T Global) → h < length rows → IsBestRow wants places h (map value (slice_index_or rows h d).items)

abbrev pub heights : Table → ℕ
heights (Narrow rows) = length rows.items
heights (Wide rows) = length rows.items

abbrev pub IsTable : List Want → ℕ → Table → Type 0
IsTable wants places (Narrow rows) = AreBestRows (λ v. v) wants places rows.items
IsTable wants places (Wide rows) = AreBestRows (λ v. v) wants places rows.items

-- a height that isn't useful gives no more than the one below it
abbrev pub AreUseful : List Want → ℕ → List Bool → Type 0
AreUseful wants places useful =
    (h : ℕ) (d : Bool) → h < length useful → slice_index_or useful h d ≡ false
    → (w v : ℕ) → w < places → IsBestOf wants 0 w h v → IsBestOf wants 0 w (h - 1) v

-- the topmost cut isn't one across the width
abbrev pub IsUncut : Tree → Type 0
IsUncut Rest = Unit {0}
IsUncut (Piece d t) = Unit {0}
IsUncut (Cut Y a t u) = Unit {0}
IsUncut (Trim X a t) = ⊥
IsUncut (Trim Y a t) = ⊥
IsUncut (Cut X a t u) = ⊥

-- each place has the best worth of the trees that don't begin with a cut across the width
abbrev pub IsUncutRow : List Want → ℕ → List ℕ → Type 0
IsUncutRow wants h row =
    (w : ℕ) → w < length row → IsBest wants (λ t. Legal wants 0 t w h × IsUncut t) (slice_index row w)

-- a tree that doesn't begin with a cut across the width, worth no less than a piece or the best of the height below
pub record IsLifted (wants : List Want) (w h v : ℕ) : Type 0 where
  pub most : (x : Want) (turned : Bool) → Contains wants x → HasSides x turned w h → x.worth ≤ v
  pub above : (u : ℕ) → 1 ≤ h → IsBestOf wants 0 w (h - 1) u → u ≤ v
  pub found : (t : Tree) × Legal wants 0 t w h × IsUncut t × (worth_of wants t ≡ v)

abbrev pub IsLiftedRow : List Want → ℕ → List ℕ → Type 0
IsLiftedRow wants h row = (w : ℕ) → w < length row → IsLifted wants w h (slice_index row w)

-- each side is at least 1, and no worth is more than this for each unit of its area
abbrev pub ArePriced : ℕ → List Want → Type 0
ArePriced price wants =
    (x : Want) → Contains wants x → (1 ≤ x.size.w) × (1 ≤ x.size.h) × (x.worth ≤ price * (x.size.w * x.size.h))

-- a price at which every rectangle of the height stays below the limit
pub record IsPricedBelow (limit : ℕ) (wants : List Want) (places h : ℕ) : Type 0 where
  pub price : ℕ
  pub priced : ArePriced price wants
  pub below : (w : ℕ) → w < places → price * (w * h) < limit

-- each side is at least 1, and each worth at most 2^30
abbrev pub HaveSidesAndBoundedWorths : List Want → Type 0
HaveSidesAndBoundedWorths wants = (x : Want) → Contains wants x → (1 ≤ x.size.w) × (1 ≤ x.size.h) × (x.worth ≤ 2 ^ 30)

-- a cut across the width at `at` gives the best worth
pub record IsCutX (wants : List Want) (w h best at : ℕ) : Type 0 where
  pub some : 1 ≤ at
  pub inside : at < w
  pub first : ℕ
  pub second : ℕ
  pub firsts : IsBestOf wants 0 at h first
  pub seconds : IsBestOf wants 0 (w - at) h second
  pub sum : first + second ≡ best

pub record IsCutY (wants : List Want) (w h best at : ℕ) : Type 0 where
  pub some : 1 ≤ at
  pub inside : at < h
  pub first : ℕ
  pub second : ℕ
  pub firsts : IsBestOf wants 0 w at first
  pub seconds : IsBestOf wants 0 w (h - at) second
  pub sum : first + second ≡ best

-- the want at this place has the sides and the worth
pub record IsPieceAt (wants : List Want) (w h best i : ℕ) (turned : Bool) : Type 0 where
  pub want : Want
  pub here : slice_get wants i ≡ Some want
  pub sides : HasSides want turned w h
  pub worth : want.worth ≡ best

-- how the best worth of a rectangle is reached
abbrev pub Explains : List Want → ℕ → ℕ → ℕ → Choice → Type 0
Explains wants w h best Waste = best ≡ 0
Explains wants w h best (Whole i turned) = IsPieceAt wants w h best i turned
Explains wants w h best (CutX a) = IsCutX wants w h best a
Explains wants w h best (CutY a) = IsCutY wants w h best a

-- the counts grew by the leaves of some best tree
pub record CountsLeaves (wants : List Want) (w h : ℕ) (old new : List ℕ) : Type 0 where
  pub tree : Tree
  pub legal : Legal wants 0 tree w h
  pub best : IsBestOf wants 0 w h (worth_of wants tree)
  pub counts : (i : ℕ) (x : Want) → slice_get wants i ≡ Some x → slice_index new i ≡ slice_index old i + count_of tree x.demand

-- a worth in the range of a sheet's table
abbrev pub HaveBoundedWorths : List Want → Type 0
HaveBoundedWorths wants = (x : Want) → Contains wants x → x.worth ≤ 2 ^ 30

-- each side is at least 1
abbrev pub HaveSides : List Want → Type 0
HaveSides wants = (x : Want) → Contains wants x → (1 ≤ x.size.w) × (1 ≤ x.size.h)
