-- Costs are multiples of what divides the sizes' costs.
use Rattle.std.proofs.Common.{◌≡◌, ℕ, ◌+◌, ◌*◌, ◌/◌, ◌<◌, ◌≤◌, List, [], ◌∷◌, length, take, get_or, take_all, Option, Some, None, refl, ap, sym, subst, ◌∙◌, inl, inr, arith}
use Rattle.std.specs.Prelude.{All, slice_get}
use Rattle.std.specs.Int.{◌∣◌, IsGcd, div_ceil}
use Rattle.std.specs.Option.{option_map_or}
use Rattle.std.proofs.lemmas.Bool.{cases_lt}
use Rattle.std.proofs.lemmas.List.{take_more}
use Rattle.std.proofs.lemmas.List.Elements.{All-head, All-more, All-nil, All-weaker}
use Rattle.std.proofs.lemmas.List.Sums.{sum_by-cons}
use Rattle.std.proofs.lemmas.Nat.{mul-le}
use Rattle.std.proofs.lemmas.Nat.Gcd.{dvd-zero, dvd_trans, mod-eq-zero_of_dvd}
use Rattle.std.proofs.Math.Nat.{le_refl, mod-add-div}
use Rattle.cut_wants.specs.declared.wants.Want.{Want}
use Rattle.cut_bound.specs.declared.stock.StockSize.{StockSize}
use Rattle.cut_bound.specs.Solutions.{CutUnit, Solution, IsCostBound, cost_of}
use Rattle.cut_bound.specs.Orders.{IsCommonDivisor, reported_cost}
use Rattle.cut_bound.proofs.ListedPlans.{All-left, All-right}
use Rattle.cut_bound.proofs.PaidWorths.{ceil_le}
use Rattle.cut_bound.proofs.UnitSums.{each_at}

-- ---- the divisor of one more size

pub divisor_none : (sizes : List StockSize) → IsCommonDivisor (take 0 sizes) 0
divisor_none sizes = record { divides = All-nil (λ (s : StockSize). 0 ∣ s.cost); greatest = λ d all. dvd-zero d }

pub divisor_next : (sizes : List StockSize) (i old new : ℕ) (s : StockSize) → i < length sizes → s ≡ get_or sizes i s → IsGcd s.cost old new → IsCommonDivisor (take i sizes) old
    → IsCommonDivisor (take (i + 1) sizes) new
divisor_next sizes i old new s lt is gcd before =
    record {
      divides =
          All-more (λ (z : StockSize). new ∣ z.cost) sizes i s lt
          (All-weaker (λ (z : StockSize). old ∣ z.cost) (λ (z : StockSize). new ∣ z.cost) (λ z by. dvd_trans new gcd.1 by) (take i sizes) before.divides)
          (subst (λ (z : StockSize). new ∣ z.cost) is gcd.0);
      greatest = λ d all.
          let parts = subst (All (λ (z : StockSize). d ∣ z.cost)) (take_more sizes i s lt) all in
          let first = All-left (λ (z : StockSize). d ∣ z.cost) (take i sizes) (get_or sizes i s ∷ []) parts in
          let last = All-head (λ (z : StockSize). d ∣ z.cost) (get_or sizes i s) [] (All-right (λ (z : StockSize). d ∣ z.cost) (take i sizes) (get_or sizes i s ∷ []) parts) in
          gcd.2 d (subst (λ (z : StockSize). d ∣ z.cost) (sym is) last) (before.greatest d first);
    }

pub divisor_all : (sizes : List StockSize) (i divisor : ℕ) → length sizes ≤ i → IsCommonDivisor (take i sizes) divisor → IsCommonDivisor sizes divisor
divisor_all sizes i divisor all is = subst (λ (zs : List StockSize). IsCommonDivisor zs divisor) (take_all i sizes all) is

-- ---- costs are multiples

record IsMultiple (g n : ℕ) : Type 0 where
  times : ℕ
  is : n ≡ times * g

multiple : (g n : ℕ) → g ∣ n → IsMultiple g n
multiple g n by = record { times = n / g; is = omega (arith, mod-add-div n g, mod-eq-zero_of_dvd g by) }

cost_at_place : (sizes : List StockSize) (g p : ℕ) → All (λ s. g ∣ s.cost) sizes → (o : Option StockSize) → slice_get sizes p ≡ o → IsMultiple g (option_map_or (λ s. s.cost) o 0)
cost_at_place sizes g p all None is = record { times = 0; is = omega arith }
cost_at_place sizes g p all (Some s) is = multiple g s.cost (each_at (λ (z : StockSize). g ∣ z.cost) sizes p s all is)

cost_multiple : (sizes : List StockSize) (g : ℕ) (us : Solution) → All (λ s. g ∣ s.cost) sizes → IsMultiple g (cost_of sizes us)
cost_multiple sizes g [] all = record { times = 0; is = omega arith }
cost_multiple sizes g (u ∷ us) all =
    let cost = λ (x : CutUnit). option_map_or (λ (s : StockSize). s.cost) (slice_get sizes x.place) 0 in
    let here = cost_at_place sizes g u.place all (slice_get sizes u.place) refl in
    let there = cost_multiple sizes g us all in
    record { times = here.times + there.times; is = omega (arith, sum_by-cons cost u us, here.is, there.is) }

rounded : (g bound times cost : ℕ) → cost ≡ times * g → bound ≤ cost → div_ceil bound g * g ≤ cost
rounded g bound times cost is le =
    elim (cases_lt 0 g) [
      | inl some ↦
          let few : div_ceil bound g ≤ times = ceil_le bound g times some (omega (arith, is, le)) in
          omega (arith, mul-le (div_ceil bound g) g times g few (le_refl g), is)
      | inr none ↦
          let zero_g : g ≡ 0 = omega arith in
          let nothing : div_ceil bound g * g ≡ 0 = ap (λ n. div_ceil bound g * n) zero_g ∙ omega arith in
          omega (arith, nothing)
    ]

pub multiple_bound : (wants : List Want) (k : ℕ) (sizes : List StockSize) (bound divisor : ℕ) → IsCommonDivisor sizes divisor → IsCostBound wants k sizes bound
    → IsCostBound wants k sizes (reported_cost divisor bound)
multiple_bound wants k sizes bound divisor common least us is makes =
    let m = cost_multiple sizes divisor us common.divides in
    let le = rounded divisor bound m.times (cost_of sizes us) m.is (least us is makes) in
    omega (arith, le)
