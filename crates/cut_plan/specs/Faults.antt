-- Why a planner gives no plan: the first of its faults whose condition holds.
use Rattle.std.specs.Prelude.{ℕ, ◌+◌, ◌&&◌, ◌||◌, ◌==◌, not, Bool, false, nat_le, nat_lt, List, [], ◌∷◌, length, if◌then◌else◌, Option, Some, None, IsTrue, Contains, ◌≤◌}
use Rattle.std.specs.List.{list_any}
use Rattle.cut_measure.specs.declared.ranges.TheConstants.{MAX_COUNT, MAX_WORTH}
use Rattle.cut_plan.specs.declared.faults.TheConstants.{MAX_WANTS}
use Rattle.cut_bars.specs.declared.bar.TheConstants.{MAX_BAR_LENGTH}
use Rattle.cut_sheets.specs.declared.sheet.TheConstants.{MAX_STEPS}
use Rattle.cut_measure.specs.declared.sizes.Kind.{Kind}
use Rattle.cut_measure.specs.declared.sizes.Kind.TheVariants.{Bar, Sheet}
use Rattle.cut_measure.specs.Measures.{Size}
use Rattle.cut_wants.specs.declared.wants.Want.{Want}
use Rattle.cut_sheets.specs.Rounded.{steps_down}
use Rattle.cut_plan.specs.declared.faults.PlanFault.{PlanFault}
use Rattle.cut_plan.specs.declared.faults.PlanFault.TheVariants.{BadWant, BadStep, TableTooLarge, NothingFits}

-- a worth or a number that is left outside its range
abbrev pub is_bad_number : Want → Bool
is_bad_number x = x.worth == 0 || nat_lt MAX_WORTH x.worth || x.left == 0 || nat_lt MAX_COUNT x.left

-- a bar's piece is flat, and isn't turned
abbrev pub is_bad_want : Kind → Want → Bool
is_bad_want Bar x = is_bad_number x || not (x.size.h == 1) || x.may_turn
is_bad_want Sheet x = is_bad_number x

-- a demand stands twice
abbrev pub has_twice : List Want → Bool
has_twice [] = false
has_twice (x ∷ xs) = list_any (λ y. y.demand == x.demand) xs || has_twice xs

-- there is no want or there are more than `most`, or one is out of range or stands twice
abbrev pub are_bad_wants : (most : ℕ) → Kind → List Want → Bool
are_bad_wants most kind wants = length wants == 0 || nat_lt most (length wants) || has_twice wants || list_any (is_bad_want kind) wants

-- a side of the want and a kerf are shorter than the step
abbrev pub is_short : (kerf step : ℕ) → Want → Bool
is_short k s x = nat_lt (x.size.w + k) s || nat_lt (x.size.h + k) s

abbrev pub is_bad_step : Kind → (kerf step : ℕ) → List Want → Bool
is_bad_step Bar k s wants = false
is_bad_step Sheet k s wants = s == 0 || list_any (is_short k s) wants

abbrev pub is_large : Kind → Size → (kerf step : ℕ) → Bool
is_large Bar size k s = nat_lt MAX_BAR_LENGTH size.w
is_large Sheet size k s = nat_lt MAX_STEPS (steps_down k s size.w) || nat_lt MAX_STEPS (steps_down k s size.h)

-- the want fits the unit, turned where it may be
abbrev pub is_fitting : Size → Want → Bool
is_fitting size x =
    (nat_le x.size.w size.w && nat_le x.size.h size.h) || (x.may_turn && nat_le x.size.h size.w && nat_le x.size.w size.h)

abbrev pub plan_fault : Kind → Size → (kerf step : ℕ) → List Want → Option PlanFault
plan_fault kind size k s wants =
    if are_bad_wants MAX_WANTS kind wants then Some BadWant
    else (if is_bad_step kind k s wants then Some BadStep
    else (if is_large kind size k s then Some TableTooLarge
    else (if list_any (is_fitting size) wants then None else Some NothingFits)))

-- a want that fits, with sides that a size has
pub record SomeFits (size : Size) (wants : List Want) : Type 0 where
  pub want : Want
  pub there : Contains wants want
  pub fits : IsTrue (is_fitting size want)
  pub wide : 1 ≤ want.size.w
  pub tall : 1 ≤ want.size.h
