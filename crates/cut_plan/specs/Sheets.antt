-- Plans of a sheet, with a ceiling.
use Rattle.std.specs.Prelude.{◌≡◌, false, IsTrue, ℕ, ◌+◌, ◌-◌, ◌*◌, ◌≤◌, ◌<◌, List, [], ◌∷◌, length, min, sum_by, slice_get, slice_index, Some, Contains}
use Rattle.cut_tree.specs.declared.token.TheConstants.{MAX_CUTS}
use Rattle.cut_measure.specs.Measures.{Size}
use Rattle.cut_tree.specs.Tree.{Tree, CutsInto, count_of, cut_count}
use Rattle.cut_tree.specs.Nodes.{tree_of}
use Rattle.cut_wants.specs.declared.wants.Want.{Want}
use Rattle.cut_wants.specs.Legal.{Legal, IsWithinCounts, worth_of, leaf_count}
use Rattle.cut_wants.specs.Best.{IsBestOf}
use Rattle.cut_sheets.specs.Rounded.{steps_down, wants_down, wants_up}
use Rattle.cut_sheets.specs.Kept.{IsInside, IsPruned}
use Rattle.cut_sheets.specs.declared.keep.Kept.{Kept}
use Rattle.cut_plan.specs.declared.sheets.SheetProposal.{SheetProposal}

-- a tree that is best for the sheet in steps, with sides rounded up
pub record IsBestUp (size : Size) (kerf step : ℕ) (wants : List Want) (tree : Tree) : Type 0 where
  pub legal : Legal (wants_up kerf step wants) 0 tree (steps_down kerf step size.w) (steps_down kerf step size.h)
  pub best : IsBestOf (wants_up kerf step wants) 0 (steps_down kerf step size.w) (steps_down kerf step size.h) (worth_of (wants_up kerf step wants) tree)

-- The counts of the leaves of a best tree, and a tree of those that are kept of it.
pub record AreBestLeaves (wants : List Want) (p q : ℕ) (counts : List ℕ) (kept : Tree) : Type 0 where
  pub tree : Tree
  pub legal : Legal wants 0 tree p q
  pub best : IsBestOf wants 0 p q (worth_of wants tree)
  pub len : length counts ≡ length wants
  pub exact : (i : ℕ) (x : Want) → slice_get wants i ≡ Some x → slice_index counts i ≡ count_of tree x.demand
  pub few : (i : ℕ) (x : Want) → slice_get wants i ≡ Some x → count_of kept x.demand ≡ min (slice_index counts i) x.left
  pub small : (i : ℕ) → i < length counts → slice_index counts i ≤ 250000
  pub inside : CutsInto (IsInside wants) kept p q 0
  pub pruned : IsPruned kept

-- The same where only the first ones of those that are kept are in the tree, if they are more than a plan has.
pub record AreFirstLeaves (wants : List Want) (p q : ℕ) (counts : List ℕ) (kept : Kept) : Type 0 where
  pub all : Tree
  pub best_leaves : AreBestLeaves wants p q counts all
  pub whole : IsTrue kept.is_whole → tree_of kept.tree ≡ all
  pub more : kept.is_whole ≡ false → MAX_CUTS + 1 < leaf_count all

-- of each count at most what is left
abbrev pub kept_counts : List Want → List ℕ → List ℕ
kept_counts [] ns = []
kept_counts (x ∷ xs) [] = []
kept_counts (x ∷ xs) (n ∷ ns) = min n x.left ∷ kept_counts xs ns

-- what the counts have over what is left
abbrev pub dropped_of : List Want → List ℕ → ℕ
dropped_of [] ns = 0
dropped_of (x ∷ xs) [] = 0
dropped_of (x ∷ xs) (n ∷ ns) = (n - x.left) + dropped_of xs ns

-- how many pieces of a best tree are kept: of each want at most as many as are left
abbrev pub kept_pieces : List Want → Tree → ℕ
kept_pieces wants up = sum_by (λ x. min (count_of up x.demand) x.left) wants

-- A legal tree with the pieces of a best tree of the problem rounded up, of each want as many as are left. It has at most
-- the cuts that part its pieces, one less than there are, and two more for each, which cut it out of what was parted.
pub record IsSheetPlan (size : Size) (kerf step : ℕ) (wants : List Want) (tree : Tree) (worth dropped : ℕ) : Type 0 where
  pub up : Tree
  pub best_up : IsBestUp size kerf step wants up
  pub legal : Legal wants kerf tree size.w size.h
  pub kept : (x : Want) → Contains wants x → count_of tree x.demand ≡ min (count_of up x.demand) x.left
  pub within : IsWithinCounts wants tree
  pub worth_is : worth ≡ worth_of wants tree
  pub dropped_is : dropped ≡ sum_by (λ x. count_of up x.demand - x.left) wants
  pub few_cuts : cut_count tree ≤ 3 * kept_pieces wants up - 1

-- the best worth of the problem rounded down, which no legal tree on the sheet exceeds
pub record IsCeiling (size : Size) (kerf step : ℕ) (wants : List Want) (ceiling : ℕ) : Type 0 where
  pub best : IsBestOf (wants_down kerf step wants) 0 (steps_down kerf step size.w) (steps_down kerf step size.h) ceiling
  pub most : (t : Tree) → Legal wants kerf t size.w size.h → worth_of wants t ≤ ceiling

-- a plan that is laid out, and a ceiling
pub record IsSheetProposal (size : Size) (kerf step : ℕ) (wants : List Want) (proposal : SheetProposal) : Type 0 where
  pub laid : IsSheetPlan size kerf step wants proposal.plan.tree proposal.worth proposal.dropped
  pub unit : (proposal.plan.w ≡ size.w) × (proposal.plan.h ≡ size.h) × (proposal.plan.kerf ≡ kerf)
  pub ceiling : IsCeiling size kerf step wants proposal.ceiling

-- such a plan of more than 85 pieces that takes over 255 cuts
pub record HasManyKept (size : Size) (kerf step : ℕ) (wants : List Want) : Type 0 where
  pub tree : Tree
  pub worth : ℕ
  pub dropped : ℕ
  pub laid : IsSheetPlan size kerf step wants tree worth dropped
  pub many : 85 < kept_pieces wants laid.up
  pub many_cuts : MAX_CUTS < cut_count tree
