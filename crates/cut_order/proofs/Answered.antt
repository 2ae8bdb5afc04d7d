-- What an answer says.
use Rattle.std.proofs.Common.{◌≡◌, ◌↔◌, ℕ, ◌*◌, ◌<◌, ◌≤◌, ◌^◌, List, [], ◌∷◌, Option, Some, None, refl, sym, ◌∙◌, arith}
use Rattle.std.specs.Prelude.{All, IsTrue, IsSome, map, slice_get, sum_by}
use Rattle.std.specs.Option.{option_map_or}
use Rattle.std.proofs.lemmas.List.Sums.{sum_by-cons}
use Rattle.std.proofs.lemmas.Nat.{mul-le}
use Rattle.std.proofs.Math.Logic.{∥∥₁_elim, ∥∥₁_map}
use Rattle.std.proofs.Math.Bridge.{le_prop}
use Rattle.std.proofs.Math.Nat.{le_refl}
use Rattle.cut_measure.specs.declared.sizes.Kind.{Kind}
use Rattle.cut_wants.specs.declared.wants.Want.{Want}
use Rattle.cut_bound.specs.declared.limits.TheConstants.{MAX_ORDER_UNITS}
use Rattle.cut_bound.specs.declared.stock.StockSize.{StockSize}
use Rattle.cut_bound.specs.declared.planned.PlannedUnit.{PlannedUnit}
use Rattle.cut_bound.specs.declared.check.CheckedOrder.{CheckedOrder}
use Rattle.cut_bound.specs.Solutions.{CutUnit, IsCostBound, cost_at_hand, cost_of}
use Rattle.cut_bound.specs.Orders.{IsPricedBound}
use Rattle.cut_bound.specs.Planned.{IsChecked, solution_of}
use Rattle.cut_bound.specs.Prices.{price_of, priced, step_of}
use Rattle.cut_bound.proofs.CheckedOrders.{cheapest_order}
use Rattle.cut_bound.proofs.PlannedUnits.{planned_all}
use Rattle.cut_bound.proofs.UnitSums.{each_at, falls_short}
use Rattle.cut_order.specs.declared.instance.TheConstants.{MAX_COST}
use Rattle.cut_order.specs.declared.answer.OrderPlan.{OrderPlan}
use Rattle.cut_order.specs.Answers.{IsAnswerOf, IsReportedBound}
use Rattle.cut_order.specs.Places.{IsFewOrderPlan, IsFilledOrFull, unit_count}

-- a unit costs no more than the dearest size may
unit_cost : (sizes : List StockSize) (place : ℕ) → All (λ s. s.cost ≤ MAX_COST) sizes → (o : Option StockSize) → slice_get sizes place ≡ o → option_map_or (λ s. s.cost) o 0 ≤ MAX_COST
unit_cost sizes place cheap None is = omega arith
unit_cost sizes place cheap (Some s) is = each_at (λ (z : StockSize). z.cost ≤ MAX_COST) sizes place s cheap is

planned_cost : (sizes : List StockSize) → All (λ s. s.cost ≤ MAX_COST) sizes → (us : List PlannedUnit)
    → sum_by (λ u. u.times * option_map_or (λ s. s.cost) (slice_get sizes u.place) 0) us ≤ unit_count us * MAX_COST
planned_cost sizes cheap [] = omega arith
planned_cost sizes cheap (u ∷ us) =
    let cost = option_map_or (λ (s : StockSize). s.cost) (slice_get sizes u.place) 0 in
    omega (
      arith,
      sum_by-cons (λ (v : PlannedUnit). v.times * option_map_or (λ (s : StockSize). s.cost) (slice_get sizes v.place) 0) u us,
      sum_by-cons (λ (v : PlannedUnit). v.times) u us,
      mul-le u.times cost u.times MAX_COST (le_refl u.times) (unit_cost sizes u.place cheap (slice_get sizes u.place) refl),
      planned_cost sizes cheap us,
    )

pub small_cost : (sizes : List StockSize) (us : List PlannedUnit) → All (λ s. s.cost ≤ MAX_COST) sizes → unit_count us ≤ MAX_ORDER_UNITS → cost_of sizes (solution_of us) < 2 ^ 63
small_cost sizes us cheap few =
    omega (
      arith,
      planned_all (λ (u : CutUnit). option_map_or (λ (s : StockSize). s.cost) (slice_get sizes u.place) 0) us,
      planned_cost sizes cheap us,
      few,
    )

pub answered : (kind : Kind) (k : ℕ) (s stages : Option ℕ) (sizes : List StockSize) (wants : List Want) (numbers : List ℕ) (plan : OrderPlan) (checked : CheckedOrder) → IsFewOrderPlan wants k stages sizes plan.units.items
    → All (IsFilledOrFull sizes plan.units.items) wants → ∥ IsPricedBound kind k s sizes wants numbers plan.bound ∥₁ → IsChecked wants k sizes plan.bound plan.units.items checked
    → checked.cost < 2 ^ 63 → plan.missing.items ≡ checked.missing.items → plan.cost ≡ checked.cost → plan.proved ≡ checked.proved
    → plan.prices.items ≡ map price_of (priced kind k (step_of s) wants numbers) → IsTrue plan.short ↔ (All (λ s. IsSome s.limit) sizes × (cost_at_hand sizes < plan.bound)) → IsAnswerOf kind k s stages sizes wants plan
answered kind k s stages sizes wants numbers plan checked planned filled bound is small missing cost proved reported short =
    let least : IsCostBound wants k sizes plan.bound = λ us cut makes. ∥∥₁_elim bound le_prop (λ b. b.least us cut makes) in
    record {
      planned = planned;
      missing_pieces = missing ∙ is.missing_pieces;
      adds_up = is.adds_up;
      filled = filled;
      paid = cost ∙ is.paid;
      small = omega (arith, cost, small);
      least = least;
      exact = ∥∥₁_map bound (λ b. (let reported : IsReportedBound kind k s sizes wants plan = record { numbers = numbers; reported = reported; exact = b } in reported));
      proof = (
        λ t. let both = is.proof.0 (sym proved ∙ t) in (both.0, cost ∙ both.1),
        λ both. proved ∙ is.proof.1 (both.0, sym cost ∙ both.1),
      );
      cheapest = λ t. cheapest_order wants k sizes plan.bound plan.units.items checked is least (sym proved ∙ t);
      lacking = short;
      none_makes_all = λ t us cut makes. let both = short.0 t in falls_short wants k sizes plan.bound both.0 least both.1 us cut makes;
    }
