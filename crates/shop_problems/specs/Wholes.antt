-- The plans of all pieces of a problem.
use Rattle.std.specs.Prelude.{◌≡◌, ℕ, ◌+◌, ◌/◌, ◌==◌, ◌&&◌, ◌⊎◌, List, [], ◌∷◌, if◌then◌else◌, max, None, Option, Some, sum}
use Rattle.std.specs.List.{list_all}
use Rattle.cut_measure.specs.Measures.{Size}
use Rattle.cut_measure.specs.declared.sizes.Kind.{Kind}
use Rattle.cut_measure.specs.declared.sizes.Kind.TheVariants.{Bar, Sheet}
use Rattle.cut_wants.specs.declared.wants.Want.{Want}
use Rattle.cut_plan.specs.declared.faults.PlanFault.{PlanFault}
use Rattle.cut_plan.specs.declared.faults.PlanFault.TheVariants.{BadWant, BadStep, NoMemory}
use Rattle.cut_plan.specs.Faults.{are_bad_wants, is_bad_step}
use Rattle.cut_sheets.specs.declared.sheet.TheConstants.{MAX_STEPS}
use Rattle.cut_bound.specs.declared.limits.TheConstants.{MAX_ORDER_WANTS}
use Rattle.cut_bound.specs.declared.stock.StockSize.{StockSize}
use Rattle.cut_bound.specs.Orders.{order_fault}
use Rattle.cut_order.specs.declared.answer.OrderPlan.{OrderPlan}
use Rattle.cut_order.specs.Answers.{IsAnswerOf}
use Rattle.cut_lines.specs.declared.lines.OrderSummary.{OrderSummary}
use Rattle.cut_lines.specs.Lines.{AreOrderLines}
use Rattle.shop_files.specs.declared.problems.Piece.{Piece}
use Rattle.shop_problems.specs.Wants.{wants_of}

-- a bar where the rectangle and all pieces have height 1
abbrev pub kind_of : Size → List Piece → Kind
kind_of size pieces = if size.h == 1 && list_all (λ p. p.h == 1) pieces then Bar else Sheet

-- the least step by which no side has over 500 steps
abbrev pub least_for : Size → (kerf : ℕ) → ℕ
least_for size k = (max size.w size.h + k) / (MAX_STEPS + 1) + 1

-- the rectangle, as often as is wanted; each costs 1, so that costs are numbers of rectangles
abbrev pub stock_of : Size → List StockSize
stock_of size = record { size = size; cost = 1; limit = None } ∷ []

-- what is wrong with the wants and the step, where one is given
abbrev pub step_fault : Kind → (kerf : ℕ) → Option ℕ → List Want → Option PlanFault
step_fault kind k None wants = None
step_fault kind k (Some step) wants =
    if are_bad_wants MAX_ORDER_WANTS kind wants then Some BadWant else if is_bad_step kind k step wants then Some BadStep else None

abbrev pub fault_or : Option PlanFault → Option PlanFault → Option PlanFault
fault_or None other = other
fault_or (Some f) other = Some f

-- that fault, or the first of the order
abbrev pub whole_fault : Kind → Size → (kerf : ℕ) → Option ℕ → List Want → Option PlanFault
whole_fault kind size k step wants = fault_or (step_fault kind k step wants) (order_fault kind k step (stock_of size) wants)

-- an answer to the order of these wants, from rectangles of this size, of at most so many stages
abbrev pub IsWholePlan : Kind → Size → (kerf : ℕ) → (step stages : Option ℕ) → List Want → OrderPlan → Type 0
IsWholePlan kind size k step stages wants plan =
    (step_fault kind k step wants ≡ None) × IsAnswerOf kind k step stages (stock_of size) wants plan

-- how many pieces are missing
abbrev pub missing_of : OrderPlan → ℕ
missing_of plan = sum plan.missing.items

-- what sums a plan up: as each rectangle costs 1, its cost is how many are cut
abbrev pub summary_of : OrderPlan → OrderSummary
summary_of plan = record { units = plan.cost; bound = plan.bound; proved = plan.proved; missing = missing_of plan }

-- an answer to the order of all pieces, and the lines that report it
pub record IsWholeText (size : Size) (pieces : List Piece) (kerf : ℕ) (step stages : Option ℕ) (text : List ℕ) : Type 0 where
  pub plan : OrderPlan
  pub answers : IsWholePlan (kind_of size pieces) size kerf step stages (wants_of pieces) plan
  pub reported : AreOrderLines (summary_of plan) plan.units.items text

-- memory ran out, or the order has this fault
abbrev pub IsWholeFault : Size → List Piece → (kerf : ℕ) → Option ℕ → PlanFault → Type 0
IsWholeFault size pieces k step fault =
    (fault ≡ NoMemory) ⊎ (whole_fault (kind_of size pieces) size k step (wants_of pieces) ≡ Some fault)
