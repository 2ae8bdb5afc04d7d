-- The largest rest that is kept when plans are carried out.
use Rattle.std.specs.Prelude.{◌≡◌, ◌⊎◌, ℕ, ◌*◌, ◌≤◌, List, All, Any, fold, if◌then◌else◌, max}
use Rattle.cut_measure.specs.Measures.{Size, CutParams}
use Rattle.cut_tree.specs.declared.lay.Row.{Row}
use Rattle.cut_tree.specs.declared.halts.Stop.TheVariants as stop
use Rattle.cut_tree.specs.Laying.{IsLaid}
use Rattle.cut_tree.specs.Patterns.{Pattern}
use Rattle.cut_tree.specs.Stops.{outcome_of}
use Rattle.cut_bound.specs.declared.planned.PlannedUnit.{PlannedUnit}
use Rattle.shop_records.specs.Columns.{is_free}
use Rattle.shop_machine.specs.Ending.{state_after_cut}

-- the cells of a laid rectangle if it stands once the job has ended, else none
abbrev pub kept_cells : CutParams → Row → ℕ
kept_cells params row = if is_free (state_after_cut params row.owner (record { w = row.w; h = row.h })) then row.w * row.h else 0

-- the most cells that one of the rectangles keeps
abbrev pub most_kept : CutParams → List Row → ℕ
most_kept params rows = fold (λ most row. max most (kept_cells params row)) 0 rows

-- the cells of the largest rest that a job keeps whose cuts are all made
pub record IsRestOf (params : CutParams) (plan : Pattern) (cells : ℕ) : Type 0 where
  pub laid : List Row
  pub is_laid : IsLaid plan.tree plan.w plan.h plan.kerf (outcome_of stop.All) laid
  pub most : cells ≡ most_kept params laid

-- the plan's is no larger
pub record HasRestWithin (params : CutParams) (cells : ℕ) (unit : PlannedUnit) : Type 0 where
  pub own : ℕ
  pub is : IsRestOf params unit.plan own
  pub within : own ≤ cells

-- The plan of each unit keeps no larger rest, and one of them keeps one of so many cells, if they aren't 0.
pub record IsLargestRest (params : CutParams) (units : List PlannedUnit) (cells : ℕ) : Type 0 where
  pub each : All (HasRestWithin params cells) units
  pub some : (cells ≡ 0) ⊎ Any (λ u. IsRestOf params u.plan cells) units
