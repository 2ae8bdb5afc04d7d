-- What no unit is worth more than, and how many units it takes at least.
use Rattle.std.specs.Prelude.{◌≡◌, ℕ, ◌≤◌, List, length}
use Rattle.std.specs.Int.{div_ceil}
use Rattle.cut_measure.specs.declared.sizes.Kind.{Kind}
use Rattle.cut_measure.specs.declared.sizes.Kind.TheVariants.{Bar, Sheet}
use Rattle.cut_measure.specs.Measures.{Size}
use Rattle.cut_tree.specs.Tree.{Tree}
use Rattle.cut_wants.specs.declared.wants.Want.{Want}
use Rattle.cut_wants.specs.Best.{IsBestOf, IsBestWithin}
use Rattle.cut_sheets.specs.Rounded.{steps_down, wants_down}
use Rattle.cut_sheets.specs.Bound.{Meets, worth_left}
use Rattle.cut_plan.specs.declared.bounds.Bound.{Bound}

-- a bar's best worth within the counts, or the best worth of a sheet whose sides are rounded down to steps
abbrev pub IsUnitBest : Kind → Size → (kerf step : ℕ) → List Want → ℕ → Type 0
IsUnitBest Bar size k s wants best = IsBestWithin wants k size.w size.h best
IsUnitBest Sheet size k s wants best = IsBestOf (wants_down k s wants) 0 (steps_down k s size.w) (steps_down k s size.h) best

pub record IsBound (kind : Kind) (size : Size) (kerf step : ℕ) (wants : List Want) (bound : Bound) : Type 0 where
  pub best : IsUnitBest kind size kerf step wants bound.best
  pub exact : bound.units ≡ div_ceil (worth_left wants) bound.best
  pub least : (trees : List Tree) → Meets wants kerf size.w size.h trees → bound.units ≤ length trees
