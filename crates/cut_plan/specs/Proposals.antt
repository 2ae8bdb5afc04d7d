-- Best plans of a bar.
use Rattle.std.specs.Prelude.{◌≡◌, ℕ, ◌+◌, ◌≤◌, ◌<◌, List, [], ◌∷◌, ◌++◌, replicate, All}
use Rattle.cut_measure.specs.declared.ranges.TheConstants.{MAX_NUMBERS}
use Rattle.cut_tree.specs.declared.token.TheConstants.{MAX_CUTS}
use Rattle.cut_measure.specs.Measures.{Size}
use Rattle.cut_tree.specs.Tree.{Tree, cut_count}
use Rattle.cut_tree.specs.Bars.{bar_tree}
use Rattle.cut_wants.specs.declared.wants.Want.{Want}
use Rattle.cut_wants.specs.Legal.{Legal, IsWithinCounts, worth_of, leaf_count}
use Rattle.cut_bars.specs.Counts.{AreCounts, AreBestCounts, HaveLength, worth_of_counts}
use Rattle.cut_plan.specs.declared.bars.Proposal.{Proposal}
use Rattle.cut_plan.specs.declared.bars.Pieces.{Pieces}

-- the want's demand has a number that a demand may have
abbrev pub HasDemandNumber : Want → Type 0
HasDemandNumber x = (1 ≤ x.demand) × (x.demand ≤ MAX_NUMBERS)

abbrev pub AreDemands : List Want → Type 0
AreDemands wants = All HasDemandNumber wants

-- the pieces that counts give, each with its demand and length, in the order of the wants
abbrev pub pieces_of : List Want → List ℕ → List (ℕ × ℕ)
pieces_of [] ns = []
pieces_of (x ∷ xs) [] = []
pieces_of (x ∷ xs) (a ∷ ns) = replicate a (x.demand, x.size.w) ++ pieces_of xs ns

-- the pieces of best counts, and their worth
pub record AreBestPieces (size : Size) (kerf : ℕ) (wants : List Want) (pieces : Pieces) : Type 0 where
  pub counts : List ℕ
  pub best : AreBestCounts kerf wants (size.w + kerf) counts
  pub list : pieces.pieces.items ≡ pieces_of wants counts
  pub worth : pieces.worth ≡ worth_of_counts wants counts
  pub some : HaveLength wants

-- The tree of some counts in the order of the wants, such that no legal tree within the counts is worth more.
pub record IsBarPlan (size : Size) (kerf : ℕ) (wants : List Want) (tree : Tree) : Type 0 where
  pub counts : List ℕ
  pub few : AreCounts wants counts
  pub same : tree ≡ bar_tree (pieces_of wants counts) size.w kerf
  pub legal : Legal wants kerf tree size.w size.h
  pub within : IsWithinCounts wants tree
  pub best : (t : Tree) → Legal wants kerf t size.w size.h → IsWithinCounts wants t → worth_of wants t ≤ worth_of wants tree

-- such a plan, and what it is worth
pub record IsBarProposal (size : Size) (kerf : ℕ) (wants : List Want) (proposal : Proposal) : Type 0 where
  pub planned : IsBarPlan size kerf wants proposal.plan.tree
  pub unit : (proposal.plan.w ≡ size.w) × (proposal.plan.h ≡ size.h) × (proposal.plan.kerf ≡ kerf)
  pub worth : proposal.worth ≡ worth_of wants proposal.plan.tree

-- such a plan that has over 255 pieces and takes over 255 cuts
pub record HasManyPieces (size : Size) (kerf : ℕ) (wants : List Want) : Type 0 where
  pub tree : Tree
  pub planned : IsBarPlan size kerf wants tree
  pub many : MAX_CUTS < leaf_count tree
  pub many_cuts : MAX_CUTS < cut_count tree
