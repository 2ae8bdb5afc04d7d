-- What an order's units leave over of a stock.
use Rattle.std.specs.Prelude.{◌≡◌, ◌⊎◌, ℕ, ◌+◌, ◌<◌, ◌≤◌, All, IsTrue, List, Option, ◌++◌, IfSome, Some, slice_get, sum_by}
use Rattle.cut_wants.specs.declared.wants.Want.{Want}
use Rattle.cut_plan.specs.Faults.{is_fitting}
use Rattle.cut_bound.specs.declared.limits.TheConstants.{MAX_ORDER_UNITS}
use Rattle.cut_bound.specs.declared.stock.StockSize.{StockSize}
use Rattle.cut_bound.specs.declared.planned.PlannedUnit.{PlannedUnit}
use Rattle.cut_bound.specs.Solutions.{pieces_of, units_at}
use Rattle.cut_bound.specs.Planned.{IsFilled, IsOrderPlan, solution_of}
use Rattle.cut_bound.specs.Stages.{IsStaged}

-- how many units they are
abbrev pub unit_count : List PlannedUnit → ℕ
unit_count units = sum_by (λ u. u.times) units

-- each unit's plan has at most so many stages, where there is a limit
abbrev pub AreStaged : (stages : Option ℕ) → List PlannedUnit → Type 0
AreStaged stages units = All (λ u. IsStaged stages u.plan.tree) units

-- a plan of the order, of at most 100000 units, whose plans keep to the limit of stages
pub record IsFewOrderPlan (wants : List Want) (kerf : ℕ) (stages : Option ℕ) (sizes : List StockSize) (units : List PlannedUnit) : Type 0 where
  pub plan : IsOrderPlan wants kerf sizes units
  pub staged : AreStaged stages units
  pub few : unit_count units ≤ MAX_ORDER_UNITS

-- the same units and others after them
pub record IsGrown (old new : List PlannedUnit) : Type 0 where
  pub more : List PlannedUnit
  pub same : new ≡ old ++ more

-- of the size at a place none is unused that holds a missing piece of the want, or there are 100000 units
pub record IsDoneAt (sizes : List StockSize) (units : List PlannedUnit) (x : Want) (place : ℕ) : Type 0 where
  pub done : (unit_count units ≡ MAX_ORDER_UNITS) ⊎ (x.left ≤ pieces_of (solution_of units) x.demand)
      ⊎ ((s : StockSize) → slice_get sizes place ≡ Some s → IfSome s.limit (λ n. units_at (solution_of units) place < n) → IsTrue (is_fitting s.size x) → ⊥)

-- so many units of the size at a place, one piece of the want each, may be added, and no more can or need be
pub record IsAddition (sizes : List StockSize) (units : List PlannedUnit) (x : Want) (place times : ℕ) : Type 0 where
  pub stock : StockSize
  pub there : slice_get sizes place ≡ Some stock
  pub fits : 1 ≤ times → IsTrue (is_fitting stock.size x)
  pub few : unit_count units + times ≤ MAX_ORDER_UNITS
  pub no_more : 1 ≤ times → pieces_of (solution_of units) x.demand + times ≤ x.left
  pub at_hand : IfSome stock.limit (λ n. units_at (solution_of units) place + times ≤ n)
  pub all : (unit_count units + times ≡ MAX_ORDER_UNITS) ⊎ (x.left ≤ pieces_of (solution_of units) x.demand + times)
      ⊎ (IfSome stock.limit (λ n. units_at (solution_of units) place + times < n) → IsTrue (is_fitting stock.size x) → ⊥)

-- a piece of the want is missing only where no unused unit holds one, or there are 100000 units
abbrev pub IsFilledOrFull : List StockSize → List PlannedUnit → Want → Type 0
IsFilledOrFull sizes units x = (unit_count units ≡ MAX_ORDER_UNITS) ⊎ IsFilled sizes (solution_of units) x
