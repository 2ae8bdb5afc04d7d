-- The plans of the lines of an order file.
use Rattle.std.specs.Prelude.{◌≡◌, ◌⊎◌, ◌≤◌, ◌||◌, ℕ, suc, List, [], ◌∷◌, filter, if◌then◌else◌, length, map, nat_lt, Option, Some, None, sum_by}
use Rattle.std.specs.Str.{bytes_eq}
use Rattle.cut_measure.specs.Measures.{Size}
use Rattle.cut_measure.specs.declared.sizes.Kind.{Kind}
use Rattle.cut_wants.specs.declared.wants.Want.{Want}
use Rattle.cut_plan.specs.declared.faults.PlanFault.{PlanFault}
use Rattle.cut_plan.specs.declared.faults.PlanFault.TheVariants.{BadWant, NoMemory}
use Rattle.cut_bound.specs.declared.limits.TheConstants.{MAX_BOUGHT_SIZES}
use Rattle.cut_bound.specs.Orders.{order_fault}
use Rattle.cut_bound.specs.declared.planned.PlannedUnit.{PlannedUnit}
use Rattle.cut_order.specs.declared.answer.OrderPlan.{OrderPlan}
use Rattle.cut_order.specs.Answers.{IsAnswerOf}
use Rattle.cut_lines.specs.declared.lines.OrderSummary.{OrderSummary}
use Rattle.cut_lines.specs.Lines.{AreOrderLines, AreSizesLines}
use Rattle.shop_files.specs.declared.orders.OrderLine.{OrderLine}
use Rattle.shop_files.specs.declared.shops.MaterialEntry.{MaterialEntry}
use Rattle.shop_problems.specs.declared.orders.LinesFault.{LinesFault}
use Rattle.shop_problems.specs.declared.orders.LinesFault.TheVariants as fault
use Rattle.shop_problems.specs.declared.stock.StockMaterial.{StockMaterial}
use Rattle.shop_problems.specs.Stock.{AreSizes, HasBadSize, has_twice, material_in, size_text, stock_of}
use Rattle.shop_problems.specs.Wholes.{missing_of}

abbrev pub want_of : ℕ → OrderLine → Want
want_of demand line =
    record { demand = demand; size = record { w = line.w; h = line.h }; may_turn = line.turn; left = line.count; worth = line.worth }

-- the wants for lines, their demands numbered from this one on
abbrev pub wants_from : ℕ → List OrderLine → List Want
wants_from demand [] = []
wants_from demand (line ∷ lines) = want_of demand line ∷ wants_from (suc demand) lines

-- the lines of a material
abbrev pub lines_of : (material : List ℕ) → List OrderLine → List OrderLine
lines_of material lines = filter (λ (line : OrderLine). bytes_eq line.material material) lines

-- the wants for the lines of a material: the demand of the first is 1
abbrev pub wants_in : (material : List ℕ) → List OrderLine → List Want
wants_in material lines = wants_from 1 (lines_of material lines)

-- ---- the plan

-- the first fault: over 10 sizes, or one that stands twice, or that of the order
abbrev pub plan_fault : StockMaterial → List Size → List Want → Option PlanFault
plan_fault m sizes wants =
    if nat_lt MAX_BOUGHT_SIZES (length sizes) || has_twice sizes then Some BadWant
    else order_fault m.kind m.limits.kerf None (stock_of sizes) wants

-- an answer to the order of these wants, from units of these sizes, of at most so many stages
pub record IsPlanned (m : StockMaterial) (sizes : List Size) (stages : Option ℕ) (wants : List Want) (plan : OrderPlan) : Type 0 where
  pub few : length sizes ≤ MAX_BOUGHT_SIZES
  pub answers : IsAnswerOf m.kind m.limits.kerf None stages (stock_of sizes) wants plan

-- ---- what is reported about it

-- how many units there are
abbrev pub count_of : List PlannedUnit → ℕ
count_of units = sum_by (λ (u : PlannedUnit). u.times) units

abbrev pub summary_of : OrderPlan → OrderSummary
summary_of plan = record { units = count_of plan.units.items; bound = plan.bound; proved = plan.proved; missing = missing_of plan }

-- with one size the lines of its plans; with several the cost too, and the lines of each size by its name
abbrev pub ArePlanLines : Kind → List Size → OrderPlan → List ℕ → Type 0
ArePlanLines kind sizes plan text =
    ((length sizes ≡ 1) × AreOrderLines (summary_of plan) plan.units.items text)
    ⊎ (((length sizes ≡ 1) → ⊥) × AreSizesLines (summary_of plan) plan.cost (map (size_text kind) sizes) plan.units.items text)

-- the lines that report a plan of a material's lines from units of these sizes
pub record IsTextFrom (lines : List OrderLine) (code : List ℕ) (material : StockMaterial) (sizes : List Size) (stages : Option ℕ) (text : List ℕ) : Type 0 where
  pub plan : OrderPlan
  pub planned : IsPlanned material sizes stages (wants_in code lines) plan
  pub reported : ArePlanLines material.kind sizes plan text

-- of lines, a shop file's entries, a material's code and texts of sizes: the lines that report a plan
pub record IsLinesText (lines : List OrderLine) (entries : List MaterialEntry) (code : List ℕ) (texts : List (List ℕ)) (stages : Option ℕ) (text : List ℕ) : Type 0 where
  pub material : StockMaterial
  pub known : material_in entries code ≡ Some material
  pub sizes : List Size
  pub said : AreSizes material.kind texts sizes
  pub from : IsTextFrom lines code material sizes stages text

-- why they aren't planned
abbrev pub IsLinesFault : List OrderLine → List MaterialEntry → (code : List ℕ) → (texts : List (List ℕ)) → LinesFault → Type 0
IsLinesFault lines entries code texts fault.NoMaterial = material_in entries code ≡ None
IsLinesFault lines entries code texts fault.BadSize =
    (m : StockMaterial) × (material_in entries code ≡ Some m) × HasBadSize m.kind texts
IsLinesFault lines entries code texts (fault.Plan f) =
    (f ≡ NoMemory)
    ⊎ ((m : StockMaterial) × (material_in entries code ≡ Some m)
    × ((sizes : List Size) × AreSizes m.kind texts sizes × (plan_fault m sizes (wants_in code lines) ≡ Some f)))
