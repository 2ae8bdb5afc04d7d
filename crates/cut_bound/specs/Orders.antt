-- What it costs at least to make all that is left of an order, and why an order is none.
use Rattle.std.specs.Prelude.{◌≡◌, ℕ, ◌*◌, ◌==◌, min, Bool, false, List, All, Option, Some, None, if◌then◌else◌}
use Rattle.std.specs.Int.{◌∣◌, div_ceil}
use Rattle.std.specs.List.{list_any}
use Rattle.cut_measure.specs.declared.sizes.Kind.{Kind}
use Rattle.cut_measure.specs.declared.sizes.Kind.TheVariants.{Bar, Sheet}
use Rattle.cut_wants.specs.declared.wants.Want.{Want}
use Rattle.cut_sheets.specs.Bound.{worth_left}
use Rattle.cut_plan.specs.declared.faults.PlanFault.{PlanFault}
use Rattle.cut_plan.specs.declared.faults.PlanFault.TheVariants.{BadWant, BadStep, TableTooLarge, NothingFits}
use Rattle.cut_classes.specs.Classes.{Classes}
use Rattle.cut_classes.specs.Grids.{AreUsable}
use Rattle.cut_plan.specs.Faults as plan
use Rattle.cut_plan.specs.Faults.{are_bad_wants, is_fitting}
use Rattle.cut_bound.specs.declared.limits.TheConstants.{MAX_BOUND, MAX_ORDER_WANTS}
use Rattle.cut_bound.specs.declared.stock.StockSize.{StockSize}
use Rattle.cut_bound.specs.declared.stock.BoundedSize.{BoundedSize}
use Rattle.cut_bound.specs.Solutions.{IsCostBound}
use Rattle.cut_bound.specs.Bounds.{IsGreatestCost, sizes_of}
use Rattle.cut_bound.specs.Prices.{priced, step_of}
use Rattle.cut_bound.specs.UnitBounds.{IsUnitBound, is_large, wants_in_bound}

-- a sheet's step of 0
abbrev pub is_no_step : Kind → (step : Option ℕ) → Bool
is_no_step Bar step = false
is_no_step Sheet None = false
is_no_step Sheet (Some s) = s == 0

-- a sheet's step of 0, or one that is longer than a piece and a kerf
abbrev pub is_bad_step : Kind → (kerf : ℕ) → (step : Option ℕ) → List Want → Bool
is_bad_step kind k None wants = false
is_bad_step kind k (Some s) wants = plan.is_bad_step kind k s wants

-- the first fault of the wants, the step, or the sizes
abbrev pub fault_by : (bad_step : Bool) → Kind → (kerf : ℕ) → (step : Option ℕ) → List StockSize → List Want → Option PlanFault
fault_by bad_step kind k step sizes wants =
    if are_bad_wants MAX_ORDER_WANTS kind wants then Some BadWant
    else (if bad_step then Some BadStep
    else (if list_any (λ z. is_large kind z.size k step) sizes then Some TableTooLarge
    else (if list_any (λ z. list_any (is_fitting z.size) wants) sizes then None else Some NothingFits)))

-- the fault of an order: its step may be longer than a piece and a kerf
abbrev pub order_fault : Kind → (kerf : ℕ) → (step : Option ℕ) → List StockSize → List Want → Option PlanFault
order_fault kind k step sizes wants = fault_by (is_no_step kind step) kind k step sizes wants

-- the fault of an order whose wants' worths are all prices
abbrev pub cost_fault : Kind → (kerf : ℕ) → (step : Option ℕ) → List StockSize → List Want → Option PlanFault
cost_fault kind k step sizes wants = fault_by (is_bad_step kind k step wants) kind k step sizes wants

-- it divides each cost, and whatever divides each cost divides it
pub record IsCommonDivisor (sizes : List StockSize) (divisor : ℕ) : Type 0 where
  pub divides : All (λ s. divisor ∣ s.cost) sizes
  pub greatest : (d : ℕ) → All (λ s. d ∣ s.cost) sizes → d ∣ divisor

-- the least multiple that is no less, or 10^18 where that is less
abbrev pub reported_cost : (divisor cost : ℕ) → ℕ
reported_cost divisor cost = min (div_ceil cost divisor * divisor) MAX_BOUND

-- Each size with what a unit of it is worth at most at the wants' worths, and the greatest cost at the rate of a size that
-- sets the price, as a multiple of what divides all costs. Without a step the bounds of sheets are over some classes of widths and
-- of heights, which else are of no concern.
pub record IsBoundByUnits (kind : Kind) (kerf : ℕ) (step : Option ℕ) (sizes : List StockSize) (wants : List Want) (bound : ℕ) : Type 0 where
  pub across : Classes
  pub down : Classes
  pub usable : kind ≡ Sheet → step ≡ None → AreUsable across × AreUsable down
  pub bounded : List BoundedSize
  pub all_bounded : sizes_of bounded ≡ sizes
  pub unit_bounds : All (λ r. IsUnitBound kind kerf step across down (wants_in_bound kind kerf step across down wants) r.stock.size r.best) bounded
  pub cost : ℕ
  pub greatest : IsGreatestCost bounded (worth_left (wants_in_bound kind kerf step across down wants)) cost
  pub divisor : ℕ
  pub common : IsCommonDivisor sizes divisor
  pub reported : bound ≡ reported_cost divisor cost

-- the same at the prices of those wants that have one: no solution of the sizes at hand that makes all wants costs less
pub record IsPricedBound (kind : Kind) (kerf : ℕ) (step : Option ℕ) (sizes : List StockSize) (wants : List Want) (numbers : List ℕ) (bound : ℕ) : Type 0 where
  pub exact : IsBoundByUnits kind kerf step sizes (priced kind kerf (step_of step) wants numbers) bound
  pub least : IsCostBound wants kerf sizes bound
