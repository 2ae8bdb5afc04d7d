-- Planned units: when a list of them is a plan of an order, and what a check reports it.
use Rattle.std.specs.Prelude.{◌≡◌, ℕ, ◌+◌, ◌-◌, ◌<◌, ◌≤◌, ◌^◌, ◌↔◌, IsTrue, List, [], ◌∷◌, ◌++◌, All, IfSome, Some, length, map, replicate, slice_get}
use Rattle.cut_measure.specs.Measures.{Size}
use Rattle.cut_tree.specs.declared.token.TheConstants.{MAX_CUTS}
use Rattle.cut_tree.specs.declared.leaves.Leaf.{Leaf}
use Rattle.cut_tree.specs.Tree.{Tree, count_of, cut_count}
use Rattle.cut_tree.specs.Patterns.{Pattern}
use Rattle.cut_wants.specs.declared.wants.Want.{Want}
use Rattle.cut_wants.specs.Legal.{HasSides, IsWantedPiece, Legal, leaf_count}
use Rattle.cut_plan.specs.Faults.{is_fitting}
use Rattle.cut_bound.specs.declared.stock.StockSize.{StockSize}
use Rattle.cut_bound.specs.declared.planned.PlannedUnit.{PlannedUnit}
use Rattle.cut_bound.specs.declared.check.CheckedOrder.{CheckedOrder}
use Rattle.cut_bound.specs.declared.check.CheckFault.{CheckFault}
use Rattle.cut_bound.specs.declared.check.CheckFault.TheVariants.{BadPlan, NotAtHand, TooMany, TooCostly, NoMemory}
use Rattle.cut_bound.specs.Solutions.{CutUnit, Solution, IsSolution, AreAtHand, MakesAll, IsCostBound, cost_of, pieces_of, units_at}

-- one of the units that are planned alike
abbrev pub one_of : PlannedUnit → CutUnit
one_of u = record { place = u.place; tree = u.plan.tree }

-- the units that are planned, one by one
abbrev pub solution_of : List PlannedUnit → Solution
solution_of [] = []
solution_of (u ∷ us) = replicate u.times (one_of u) ++ solution_of us

-- the leaf has the demand and the sides of the want
abbrev pub IsPieceOf : Leaf → Want → Type 0
IsPieceOf l x = (x.demand ≡ l.demand) × HasSides x l.turned l.w l.h

-- there are leaves, each a piece of a want
pub record ArePieces (wants : List Want) (leaves : List Leaf) : Type 0 where
  pub some : 1 ≤ length leaves
  pub wanted : All (λ l. IsWantedPiece wants l.demand l.turned l.w l.h) leaves

-- The plan is made for this size and kerf. It cuts the size into wanted pieces, at least one, by at most 255 cuts.
pub record IsPlanFor (wants : List Want) (kerf : ℕ) (size : Size) (plan : Pattern) : Type 0 where
  pub wide : plan.w ≡ size.w
  pub high : plan.h ≡ size.h
  pub sawn : plan.kerf ≡ kerf
  pub legal : Legal wants kerf plan.tree size.w size.h
  pub some_piece : 1 ≤ leaf_count plan.tree
  pub few_cuts : cut_count plan.tree ≤ MAX_CUTS

-- there is one at least, its place is that of one of the sizes, and its plan is one for that size
pub record IsPlannedUnit (wants : List Want) (kerf : ℕ) (sizes : List StockSize) (unit : PlannedUnit) : Type 0 where
  pub some : 1 ≤ unit.times
  pub stock : StockSize
  pub there : slice_get sizes unit.place ≡ Some stock
  pub planned : IsPlanFor wants kerf stock.size unit.plan

-- of each want at most as many pieces as are left to make
abbrev pub MakesNoMore : List Want → Solution → Type 0
MakesNoMore wants solution = All (λ x. pieces_of solution x.demand ≤ x.left) wants

-- each unit has a plan for its size, as many units are at hand, and they make no more than is left
pub record IsOrderPlan (wants : List Want) (kerf : ℕ) (sizes : List StockSize) (units : List PlannedUnit) : Type 0 where
  pub planned : All (IsPlannedUnit wants kerf sizes) units
  pub at_hand : AreAtHand sizes (solution_of units)
  pub no_more : MakesNoMore wants (solution_of units)

-- how many pieces of a want are left to make after a solution
abbrev pub missing_of : Solution → Want → ℕ
missing_of solution x = x.left - pieces_of solution x.demand

-- the solution makes all that is left, and none that does costs less
pub record IsCheapest (wants : List Want) (kerf : ℕ) (sizes : List StockSize) (solution : Solution) : Type 0 where
  pub cut : IsSolution wants kerf sizes solution
  pub makes_all : MakesAll wants solution
  pub least : IsCostBound wants kerf sizes (cost_of sizes solution)

-- The units are a plan of the order and so a solution. Of each want the pieces planned and those missing are what is left,
-- the cost is what the units cost, and `proved` says that they make all and cost as much as the bound.
pub record IsChecked (wants : List Want) (kerf : ℕ) (sizes : List StockSize) (bound : ℕ) (units : List PlannedUnit) (checked : CheckedOrder) : Type 0 where
  pub plan : IsOrderPlan wants kerf sizes units
  pub cut : IsSolution wants kerf sizes (solution_of units)
  pub missing_pieces : checked.missing.items ≡ map (missing_of (solution_of units)) wants
  pub adds_up : All (λ x. pieces_of (solution_of units) x.demand + missing_of (solution_of units) x ≡ x.left) wants
  pub paid : checked.cost ≡ cost_of sizes (solution_of units)
  pub proof : IsTrue checked.proved ↔ (MakesAll wants (solution_of units) × (checked.cost ≡ bound))

-- why units are refused: what they fail, or that their cost has no number of 128 bits
abbrev pub IsCheckFault : List Want → (kerf : ℕ) → List StockSize → List PlannedUnit → CheckFault → Type 0
IsCheckFault wants k sizes units BadPlan = All (IsPlannedUnit wants k sizes) units → ⊥
IsCheckFault wants k sizes units NotAtHand = AreAtHand sizes (solution_of units) → ⊥
IsCheckFault wants k sizes units TooMany = MakesNoMore wants (solution_of units) → ⊥
IsCheckFault wants k sizes units TooCostly = 2 ^ 128 ≤ cost_of sizes (solution_of units)
IsCheckFault wants k sizes units NoMemory = Unit {0}

-- a legal tree of the size has a piece of the want
pub record HoldsPiece (wants : List Want) (kerf : ℕ) (size : Size) (x : Want) : Type 0 where
  pub tree : Tree
  pub legal : Legal wants kerf tree size.w size.h
  pub some_piece : 1 ≤ count_of tree x.demand

-- no unit at hand that the solution does not use holds a piece of the want, turned where it may be
abbrev pub IsUnheld : List StockSize → Solution → Want → Type 0
IsUnheld sizes solution x =
    (place : ℕ) (s : StockSize) → slice_get sizes place ≡ Some s → IfSome s.limit (λ n. units_at solution place < n) → IsTrue (is_fitting s.size x) → ⊥

-- a piece of the want is missing only where no unit that is not used holds one
pub record IsFilled (sizes : List StockSize) (solution : Solution) (x : Want) : Type 0 where
  pub unheld : pieces_of solution x.demand < x.left → IsUnheld sizes solution x
