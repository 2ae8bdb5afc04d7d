-- What a query asks of a content, or why it is refused, and what may be answered.
use Rattle.std.specs.Prelude.{◌≡◌, ◌≢◌, ℕ, not, List, [], ◌∷◌, Option, Some, None, MatchOption, option_map, Result, Ok, Err, if◌then◌else◌}
use Rattle.std.specs.Option.{option_or}
use Rattle.cut_measure.specs.declared.sizes.Kind.{Kind}
use Rattle.cut_measure.specs.Measures.{is_size}
use Rattle.cut_wants.specs.declared.wants.Want.{Want}
use Rattle.cut_plan.specs.declared.faults.PlanFault.{PlanFault}
use Rattle.cut_bound.specs.declared.stock.StockSize.{StockSize}
use Rattle.cut_bound.specs.Orders.{cost_fault, order_fault}
use Rattle.shop_records.specs.declared.records.Material.{Material}
use Rattle.shop_records.specs.declared.records.Part.{Part}
use Rattle.shop_records.specs.declared.refusals.Refusal.{Refusal}
use Rattle.shop_records.specs.declared.refusals.Refusal.TheVariants.{BadMessage, NoMaterial, BadSize, NoPart, NotStanding, WrongMaterial, BadWant, NoMemory, StoreFault}
use Rattle.shop_records.specs.Columns.{is_free}
use Rattle.shop_records.specs.Content.{Content, material_at}
use Rattle.shop_records.specs.Same.{same_code}
use Rattle.shop_machine.specs.Decisions.{first_of}
use Rattle.shop_answers.specs.declared.planning.FoundDemand.{FoundDemand}
use Rattle.shop_answers.specs.Planning.{found_refusal, found_wants, planner_refusal}
use Rattle.shop_plans.specs.declared.queries.BuySize.{BuySize}
use Rattle.shop_plans.specs.declared.queries.PlansQuery.{PlansQuery}
use Rattle.shop_planning.specs.declared.instance.PlanInstance.{PlanInstance}
use Rattle.shop_planning.specs.declared.posing.Gathered.{Gathered}
use Rattle.shop_planning.specs.Lists.{has_bad_list, is_in_range}
use Rattle.shop_planning.specs.Asked.{demands_for, parts_for}
use Rattle.shop_planning.specs.Stock.{sizes_of, step_for, stock_parts}
use Rattle.shop_planning.specs.Answers.{IsPlansText}

-- ---- refusals

-- why a part isn't used for this material, if it isn't
abbrev pub part_refusal : List ℕ → Option Part → Option Refusal
part_refusal material None = Some NoPart
part_refusal material (Some part) = first_of ((not (is_free part.state), NotStanding) ∷ (not (same_code part.material material), WrongMaterial) ∷ [])

-- the first of the parts that isn't used
abbrev pub parts_refusal : List ℕ → List (Option Part) → Option Refusal
parts_refusal material [] = None
parts_refusal material (p ∷ ps) = option_or (part_refusal material p) (parts_refusal material ps)

-- a size that units of the kind don't have
abbrev pub sizes_refusal : Kind → List BuySize → Option Refusal
sizes_refusal kind [] = None
sizes_refusal kind (b ∷ bs) = if is_size kind b.w b.h then sizes_refusal kind bs else Some BadSize

-- demand by demand, then part by part, then size by size
abbrev pub rows_refusal : PlansQuery → Kind → List FoundDemand → List (Option Part) → Option Refusal
rows_refusal q kind demands parts = option_or (found_refusal q.material demands) (option_or (parts_refusal q.material parts) (sizes_refusal kind q.buy))

-- the first fault of the planner; a step that is given is judged as for one part
abbrev pub planner_fault : Kind → (kerf : ℕ) → (given step : Option ℕ) → List StockSize → List Want → Option PlanFault
planner_fault kind k None step sizes wants = order_fault kind k step sizes wants
planner_fault kind k (Some given) step sizes wants = cost_fault kind k step sizes wants

-- the refusal that reports it
abbrev pub stock_refusal : PlansQuery → Material → List StockSize → List Want → Option Refusal
stock_refusal q material sizes wants =
    option_map planner_refusal (planner_fault material.kind material.limits.kerf q.step (step_for material.kind q.step) sizes wants)

-- the first refusal of the rows, or of the planner
abbrev pub material_refusal : PlansQuery → Material → List FoundDemand → List (Option Part) → Option Refusal
material_refusal q material demands parts =
    option_or (rows_refusal q material.kind demands parts) (stock_refusal q material (sizes_of material.kind (stock_parts material.kind q.remnant parts) q.buy) (found_wants demands))

-- the same of the rows of a content
abbrev pub refusal_of : Content → PlansQuery → Material → Option Refusal
refusal_of content q material = material_refusal q material (demands_for content q.material q.demands) (parts_for content q.material material.kind q.parts)

abbrev pub known_refusal : Content → PlansQuery → Option Material → Option Refusal
known_refusal content q None = Some NoMaterial
known_refusal content q (Some material) = if has_bad_list q then Some BadWant else refusal_of content q material

-- the first refusal that holds
abbrev pub plans_refusal : Content → PlansQuery → Option Refusal
plans_refusal content q = if is_in_range q then known_refusal content q (material_at content q.material) else Some BadMessage

-- ---- what is asked

-- the stock and the wants of the rows
pub record IsGathered (q : PlansQuery) (kind : Kind) (demands : List FoundDemand) (parts : List (Option Part)) (stock : Gathered) : Type 0 where
  pub parts_are : stock.parts.items ≡ stock_parts kind q.remnant parts
  pub sizes_are : stock.sizes.items ≡ sizes_of kind stock.parts.items q.buy
  pub wants_are : stock.wants.items ≡ found_wants demands

-- a stock and wants that the planner has no fault with
pub record IsInstanceOn (q : PlansQuery) (material : Material) (stock : Gathered) (instance : PlanInstance) : Type 0 where
  pub allowed : stock_refusal q material stock.sizes.items stock.wants.items ≡ None
  pub kind : instance.kind ≡ material.kind
  pub kerf : instance.kerf ≡ material.limits.kerf
  pub step : instance.step ≡ step_for material.kind q.step
  pub calls : instance.calls ≡ q.calls
  pub stages : instance.stages ≡ q.stages
  pub limits : instance.limits ≡ material.limits
  pub parts : instance.parts.items ≡ stock.parts.items
  pub sizes : instance.sizes.items ≡ stock.sizes.items
  pub wants : instance.wants.items ≡ stock.wants.items

-- Of rows that aren't refused: the stock's parts in the order of the rows, their sizes and those that may be bought, what is
-- left of the demands, and the step.
pub record IsInstanceBy (q : PlansQuery) (material : Material) (demands : List FoundDemand) (rows : List (Option Part)) (instance : PlanInstance) : Type 0 where
  pub allowed : material_refusal q material demands rows ≡ None
  pub kind : instance.kind ≡ material.kind
  pub kerf : instance.kerf ≡ material.limits.kerf
  pub step : instance.step ≡ step_for material.kind q.step
  pub calls : instance.calls ≡ q.calls
  pub stages : instance.stages ≡ q.stages
  pub limits : instance.limits ≡ material.limits
  pub parts : instance.parts.items ≡ stock_parts material.kind q.remnant rows
  pub sizes : instance.sizes.items ≡ sizes_of material.kind instance.parts.items q.buy
  pub wants : instance.wants.items ≡ found_wants demands

-- the same of the rows of a content
abbrev pub IsInstanceOf : Content → PlansQuery → Material → PlanInstance → Type 0
IsInstanceOf content q material instance = IsInstanceBy q material (demands_for content q.material q.demands) (parts_for content q.material material.kind q.parts) instance

-- what a query that isn't refused asks of a content
pub record IsInstance (content : Content) (q : PlansQuery) (instance : PlanInstance) : Type 0 where
  pub allowed : plans_refusal content q ≡ None
  pub material : Material
  pub known : material_at content q.material ≡ Some material
  pub is : IsInstanceOf content q material instance

-- ---- what is answered

-- the text of an answer to what is asked
pub record IsQueryAnswered (content : Content) (q : PlansQuery) (result : Result (List ℕ) Refusal) : Type 0 where
  pub instance : PlanInstance
  pub asks : IsInstance content q instance
  pub text : List ℕ
  pub reported : IsPlansText instance text
  pub is : result ≡ Ok text

-- an answer, or the first refusal that holds; memory and the store aside
abbrev pub AnswersPlans : Content → PlansQuery → Result (List ℕ) Refusal → Type 0
AnswersPlans content q result =
    result ≢ Err NoMemory → result ≢ Err StoreFault → MatchOption (plans_refusal content q) (IsQueryAnswered content q result) (λ refusal. result ≡ Err refusal)
