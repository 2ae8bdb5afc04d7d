-- What a unit of a size is worth at most, as a table has it.
use Rattle.std.specs.Prelude.{◌≡◌, ℕ, ◌+◌, ◌<◌, ◌^◌, Bool, false, List, All, None, Option, Some}
use Rattle.cut_measure.specs.declared.sizes.Kind.{Kind}
use Rattle.cut_measure.specs.declared.sizes.Kind.TheVariants.{Bar, Sheet}
use Rattle.cut_measure.specs.Measures.{Size}
use Rattle.cut_wants.specs.declared.wants.Want.{Want}
use Rattle.cut_wants.specs.Best.{IsBestOf}
use Rattle.cut_wants.specs.Legal.{HaveOwnDemands}
use Rattle.cut_bars.specs.Counts.{AreBestCounts, AreUprightOfHeightOne, HaveBoundedWorthsAndLefts, worth_of_counts}
use Rattle.cut_sheets.specs.Bound.{worth_left}
use Rattle.cut_sheets.specs.Rounded.{IsStep, steps_down, wants_down}
use Rattle.cut_sheets.specs.Table.{HaveBoundedWorths}
use Rattle.cut_classes.specs.Classes.{Classes, IsCeilingOf, IsLeastCeiling}
use Rattle.cut_classes.specs.Grids.{counted}
use Rattle.cut_plan.specs.Faults as plan
use Rattle.cut_bound.specs.declared.stock.StockSize.{StockSize}

-- the worth of counts that fit a bar with a kerf after each piece, such that none that fit are worth more
pub record IsBarBound (wants : List Want) (kerf w best : ℕ) : Type 0 where
  pub counts : List ℕ
  pub best_counts : AreBestCounts kerf wants (w + kerf) counts
  pub worth : best ≡ worth_of_counts wants counts

-- what the least table over classes of widths and of heights has at those of a sheet's sides
pub record IsClassBound (wants : List Want) (kerf : ℕ) (across down : Classes) (size : Size) (best : ℕ) : Type 0 where
  pub table : ℕ → ℕ → ℕ
  pub least : IsLeastCeiling wants kerf across down table
  pub worth : IsCeilingOf kerf across down table size.w size.h best

-- That of best counts of a bar, or of a best tree of a sheet whose sides are rounded down to steps. Without a step a sheet
-- has a bound by classes.
abbrev pub IsUnitBound : Kind → (kerf : ℕ) → (step : Option ℕ) → (across down : Classes) → List Want → Size → ℕ → Type 0
IsUnitBound Bar k step xs ys wants size best = IsBarBound wants k size.w best
IsUnitBound Sheet k (Some s) xs ys wants size best = IsBestOf (wants_down k s wants) 0 (steps_down k s size.w) (steps_down k s size.h) best
IsUnitBound Sheet k None xs ys wants size best = IsClassBound wants k xs ys size best

-- the wants whose worth counts: of a sheet without a step those that a table over the classes counts
abbrev pub wants_in_bound : Kind → (kerf : ℕ) → (step : Option ℕ) → (across down : Classes) → List Want → List Want
wants_in_bound Bar k step xs ys wants = wants
wants_in_bound Sheet k (Some s) xs ys wants = wants
wants_in_bound Sheet k None xs ys wants = counted k xs ys wants

-- a size is too large for a unit bound; no sheet is without a step
abbrev pub is_large : Kind → Size → (kerf : ℕ) → (step : Option ℕ) → Bool
is_large Bar size k step = plan.is_large Bar size k 0
is_large Sheet size k (Some s) = plan.is_large Sheet size k s
is_large Sheet size k None = false

-- what the tables need of wants at prices, and of the sizes
pub record CanBeBounded (kind : Kind) (kerf : ℕ) (step : Option ℕ) (sizes : List StockSize) (wants : List Want) : Type 0 where
  pub own : HaveOwnDemands wants
  pub modest : HaveBoundedWorthsAndLefts wants
  pub worthy : HaveBoundedWorths wants
  pub total : worth_left wants < 2 ^ 64
  pub flat : kind ≡ Bar → AreUprightOfHeightOne wants
  pub stepped : kind ≡ Sheet → (s : ℕ) → step ≡ Some s → IsStep kerf s wants
  pub small : All (λ z. is_large kind z.size kerf step ≡ false) sizes
