-- What is kept of a best tree of a sheet in steps, and how it is laid out on the sheet itself.
use Rattle.std.specs.Prelude.{◌≡◌, ℕ, ◌+◌, ◌-◌, ◌*◌, ◌^◌, ◌<◌, ◌≤◌, Bool, true, false, IsTrue, List, [], ◌∷◌, Contains, Some, slice_get, slice_index, min, ◌==◌, nat_lt, if◌then◌else◌}
use Rattle.cut_measure.specs.declared.sizes.Axis.{Axis}
use Rattle.cut_measure.specs.declared.sizes.Axis.TheVariants.{X, Y}
use Rattle.cut_tree.specs.Tree.{Tree, Rest, Piece, Trim, Cut, CutsInto, leaf_sum, count_of, cut_count}
use Rattle.cut_wants.specs.declared.wants.Want.{Want}
use Rattle.cut_wants.specs.Legal.{Legal, leaf_count}
use Rattle.cut_tree.specs.Nodes.{tree_of}
use Rattle.cut_tree.specs.declared.token.TheConstants.{MAX_CUTS}
use Rattle.cut_sheets.specs.Table.{CountsLeaves}
use Rattle.cut_sheets.specs.declared.keep.Kept.{Kept}
use Rattle.cut_sheets.specs.declared.keep.Part.{Part}

-- the want has room in these sides, turned where it may be
abbrev pub FitsInto : Want → Bool → ℕ → ℕ → Type 0
FitsInto x false w h = (x.size.w ≤ w) × (x.size.h ≤ h)
FitsInto x true w h = IsTrue x.may_turn × (x.size.h ≤ w) × (x.size.w ≤ h)

-- one of the wants has the demand's number and room in these sides
abbrev pub IsInside : List Want → ℕ → Bool → ℕ → ℕ → Type 0
IsInside wants demand turned w h = (x : Want) × Contains wants x × (x.demand ≡ demand) × FitsInto x turned w h

-- a tree of pieces alone, whose cuts have a second part each
abbrev pub IsFull : Tree → Type 0
IsFull Rest = ⊥
IsFull (Piece demand turned) = Unit {0}
IsFull (Trim axis a first) = ⊥
IsFull (Cut axis a first second) = IsFull first × IsFull second

-- a rest alone, or a tree without rests
abbrev pub IsPruned : Tree → Type 0
IsPruned Rest = Unit {0}
IsPruned (Piece demand turned) = Unit {0}
IsPruned (Trim axis a first) = ⊥
IsPruned (Cut axis a first second) = IsFull first × IsFull second

-- two parts of a cut, of which one that is a rest leaves the cut out
abbrev pub joined : Axis → ℕ → Tree → Tree → Tree
joined axis a Rest u = u
joined axis a (Piece d b) Rest = Piece d b
joined axis a (Trim x p t) Rest = Trim x p t
joined axis a (Cut x p t v) Rest = Cut x p t v
joined axis a t u = Cut axis a t u

-- Of some best tree's leaves, those were kept that were among the first `left` of their want: the counts of the leaves
-- so far grew, and the kept ones are joined to a tree for the same sides.
pub record KeepsLeaves (wants : List Want) (w h : ℕ) (old new : List ℕ) (kept : Tree) : Type 0 where
  pub leaves : CountsLeaves wants w h old new
  pub few : (i : ℕ) (x : Want) → slice_get wants i ≡ Some x →
      count_of kept x.demand + min (slice_index old i) x.left ≡ min (slice_index new i) x.left
  pub inside : CutsInto (IsInside wants) kept w h 0
  pub pruned : IsPruned kept

-- the first parts of cuts, each of which has for its second part what comes after it
abbrev pub rejoined : List Part → Tree → Tree
rejoined [] t = t
rejoined (p ∷ parts) t = joined p.axis p.place (tree_of p.first) (rejoined parts t)

-- a piece that is kept after so many others stands in the tree as one of the first ones, or not; they are counted
pub record KeepsPiece (demand : ℕ) (turned : Bool) (before after : ℕ) (tree : Tree) : Type 0 where
  pub counted : after ≡ min (before + 1) (2 ^ 32 - 1)
  pub first : before ≤ MAX_CUTS → tree ≡ Piece demand turned
  pub past : MAX_CUTS < before → tree ≡ Rest

-- Leaves are kept after so many others, and counted as far as a tree may have them. The first ones of them are joined to a
-- tree, as many as there may be beside those before.
pub record KeepsFirst (wants : List Want) (w h : ℕ) (old new : List ℕ) (before after : ℕ) (tree : Tree) : Type 0 where
  pub all : Tree
  pub keeps : KeepsLeaves wants w h old new all
  pub counted : min after (MAX_CUTS + 2) ≡ min (before + leaf_count all) (MAX_CUTS + 2)
  pub whole : after ≤ MAX_CUTS + 1 → tree ≡ all
  pub few : leaf_count tree + min before (MAX_CUTS + 1) ≡ min after (MAX_CUTS + 1)
  pub pruned : IsPruned tree

-- the tree of all that are kept, or of the first ones where they are more than a plan has
pub record IsKept (wants : List Want) (w h : ℕ) (old new : List ℕ) (kept : Kept) : Type 0 where
  pub all : Tree
  pub keeps : KeepsLeaves wants w h old new all
  pub whole : IsTrue kept.is_whole → tree_of kept.tree ≡ all
  pub more : kept.is_whole ≡ false → (MAX_CUTS + 1 < leaf_count all) × (leaf_count (tree_of kept.tree) ≡ MAX_CUTS + 1)
  pub pruned : IsPruned (tree_of kept.tree)
  pub few : leaf_count (tree_of kept.tree) ≤ MAX_CUTS + 1

-- the kept tree has places on a sheet of these sides, its cuts being counted in steps
abbrev pub HasPlaces : List Want → (kerf step : ℕ) → Tree → (w h : ℕ) → Type 0
HasPlaces wants k s Rest w h = Unit {0}
HasPlaces wants k s (Piece demand turned) w h = IsInside wants demand turned w h
HasPlaces wants k s (Trim axis a first) w h = ⊥
HasPlaces wants k s (Cut X a first second) w h =
    (k < a * s) × (a * s < w) × HasPlaces wants k s first (a * s - k) h × HasPlaces wants k s second (w - a * s) h
HasPlaces wants k s (Cut Y a first second) w h =
    (k < a * s) × (a * s < h) × HasPlaces wants k s first w (a * s - k) × HasPlaces wants k s second w (h - a * s)

-- what is cut off at a length, where the side is longer
abbrev pub cut_off : Axis → (length side kerf : ℕ) → Tree → Tree
cut_off axis l side k t = if l == side then t else (if nat_lt (l + k) side then Cut axis l t Rest else Trim axis l t)

-- a legal tree with the kept tree's pieces, and few cuts
pub record Places (wants : List Want) (kerf : ℕ) (kept : Tree) (w h : ℕ) (tree : Tree) : Type 0 where
  pub legal : Legal wants kerf tree w h
  pub sums : (f : ℕ → ℕ) → leaf_sum f tree ≡ leaf_sum f kept
  pub few_cuts : cut_count tree ≤ 3 * leaf_count kept - 1
