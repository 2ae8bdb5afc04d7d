-- Units that are cut of several sizes: what they make, and what they cost.
use Rattle.std.specs.Prelude.{◌≡◌, ℕ, ◌*◌, ◌≤◌, ◌==◌, List, All, Contains, IfSome, Some, slice_get, sum_by, count_by, unwrap_or}
use Rattle.std.specs.Option.{option_map_or}
use Rattle.cut_tree.specs.Tree.{Tree, count_of}
use Rattle.cut_wants.specs.declared.wants.Want.{Want}
use Rattle.cut_wants.specs.Legal.{Legal}
use Rattle.cut_bound.specs.declared.stock.StockSize.{StockSize}

-- a unit that is cut: the place of its size in the list of sizes, and its tree
pub record CutUnit : Type 0 where
  pub place : ℕ
  pub tree : Tree

abbrev pub Solution : Type 0
Solution = List CutUnit

-- its place is that of one of the sizes, and its tree is legal on that size
pub record IsCutUnit (wants : List Want) (kerf : ℕ) (sizes : List StockSize) (unit : CutUnit) : Type 0 where
  pub stock : StockSize
  pub there : slice_get sizes unit.place ≡ Some stock
  pub legal : Legal wants kerf unit.tree stock.size.w stock.size.h

-- how many units of a solution are of the size at a place
abbrev pub units_at : Solution → ℕ → ℕ
units_at solution place = count_by (λ u. u.place == place) solution

-- of each limited size at most as many units as are at hand
abbrev pub AreAtHand : List StockSize → Solution → Type 0
AreAtHand sizes solution = (place : ℕ) (s : StockSize) → slice_get sizes place ≡ Some s → IfSome s.limit (λ n. units_at solution place ≤ n)

-- units of the sizes at hand, each with a legal tree
pub record IsSolution (wants : List Want) (kerf : ℕ) (sizes : List StockSize) (solution : Solution) : Type 0 where
  pub legal : All (IsCutUnit wants kerf sizes) solution
  pub at_hand : AreAtHand sizes solution

-- what the units of a solution cost together
abbrev pub cost_of : List StockSize → Solution → ℕ
cost_of sizes solution = sum_by (λ u. option_map_or (λ s. s.cost) (slice_get sizes u.place) 0) solution

-- what all units at hand of the limited sizes cost together
abbrev pub cost_at_hand : List StockSize → ℕ
cost_at_hand sizes = sum_by (λ s. unwrap_or s.limit 0 * s.cost) sizes

-- how many pieces of a demand the units have together
abbrev pub pieces_of : Solution → ℕ → ℕ
pieces_of solution demand = sum_by (λ u. count_of u.tree demand) solution

-- of each want at least as many pieces as are left to make
abbrev pub MakesAll : List Want → Solution → Type 0
MakesAll wants solution = (x : Want) → Contains wants x → x.left ≤ pieces_of solution x.demand

-- whoever makes all that is left of the sizes at hand pays at least the bound
abbrev pub IsCostBound : List Want → (kerf : ℕ) → List StockSize → ℕ → Type 0
IsCostBound wants kerf sizes bound = (solution : Solution) → IsSolution wants kerf sizes solution → MakesAll wants solution → bound ≤ cost_of sizes solution
