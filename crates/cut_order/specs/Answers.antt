-- The answer to an instance: a plan of the order that leaves out only what nothing unused holds, and a bound.
use Rattle.std.specs.Prelude.{◌≡◌, ◌↔◌, ℕ, ◌+◌, ◌<◌, ◌^◌, IsTrue, IsSome, List, All, Option, map}
use Rattle.cut_measure.specs.declared.sizes.Kind.{Kind}
use Rattle.cut_wants.specs.declared.wants.Want.{Want}
use Rattle.cut_bound.specs.declared.stock.StockSize.{StockSize}
use Rattle.cut_bound.specs.Solutions.{Solution, IsCostBound, IsSolution, MakesAll, cost_at_hand, cost_of, pieces_of}
use Rattle.cut_bound.specs.Orders.{IsPricedBound}
use Rattle.cut_bound.specs.Planned.{IsCheapest, solution_of, missing_of}
use Rattle.cut_bound.specs.Prices.{price_of, priced, step_of}
use Rattle.cut_order.specs.declared.instance.Instance.{Instance}
use Rattle.cut_order.specs.declared.answer.OrderPlan.{OrderPlan}
use Rattle.cut_order.specs.Places.{IsFewOrderPlan, IsFilledOrFull}

-- it asks for these wants from these sizes
pub record Asks (kind : Kind) (kerf : ℕ) (step stages : Option ℕ) (sizes : List StockSize) (wants : List Want) (instance : Instance) : Type 0 where
  pub kind_asked : instance.kind ≡ kind
  pub kerf_asked : instance.kerf ≡ kerf
  pub step_asked : instance.step ≡ step
  pub stages_asked : instance.stages ≡ stages
  pub sizes_asked : instance.sizes.items ≡ sizes
  pub wants_asked : instance.wants.items ≡ wants

-- the bound, and its prices
pub record IsReportedBound (kind : Kind) (kerf : ℕ) (step : Option ℕ) (sizes : List StockSize) (wants : List Want) (plan : OrderPlan) : Type 0 where
  pub numbers : List ℕ
  pub reported : plan.prices.items ≡ map price_of (priced kind kerf (step_of step) wants numbers)
  pub exact : IsPricedBound kind kerf step sizes wants numbers plan.bound

-- Each unit has a plan for its size, of at most so many stages, and as many are at hand. Of each want the pieces planned and those missing are what is
-- left, and a piece is missing only where no unused unit holds one, or there are 100000 units. The cost is what the units
-- cost, and whoever makes all pays at least the bound. `proved` says that they make all and cost as much as the bound;
-- `short` that all that is at hand costs less than the bound, and nothing may be bought.
pub record IsAnswerOf (kind : Kind) (kerf : ℕ) (step stages : Option ℕ) (sizes : List StockSize) (wants : List Want) (plan : OrderPlan) : Type 0 where
  pub planned : IsFewOrderPlan wants kerf stages sizes plan.units.items
  pub missing_pieces : plan.missing.items ≡ map (missing_of (solution_of plan.units.items)) wants
  pub adds_up : All (λ x. pieces_of (solution_of plan.units.items) x.demand + missing_of (solution_of plan.units.items) x ≡ x.left) wants
  pub filled : All (IsFilledOrFull sizes plan.units.items) wants
  pub paid : plan.cost ≡ cost_of sizes (solution_of plan.units.items)
  pub small : plan.cost < 2 ^ 63
  pub least : IsCostBound wants kerf sizes plan.bound
  pub exact : ∥ IsReportedBound kind kerf step sizes wants plan ∥₁
  pub proof : IsTrue plan.proved ↔ (MakesAll wants (solution_of plan.units.items) × (plan.cost ≡ plan.bound))
  pub cheapest : IsTrue plan.proved → IsCheapest wants kerf sizes (solution_of plan.units.items)
  pub lacking : IsTrue plan.short ↔ (All (λ s. IsSome s.limit) sizes × (cost_at_hand sizes < plan.bound))
  pub none_makes_all : IsTrue plan.short → (solution : Solution) → IsSolution wants kerf sizes solution → MakesAll wants solution → ⊥

-- the answer to an instance
abbrev pub IsOrderAnswer : Instance → OrderPlan → Type 0
IsOrderAnswer q plan = IsAnswerOf q.kind q.kerf q.step q.stages q.sizes.items q.wants.items plan
