-- What is left is worth no more than the units that meet it.
use Rattle.std.proofs.Common.{◌≡◌, ℕ, ◌+◌, ◌*◌, ◌<◌, ◌≤◌, List, [], ◌∷◌, length, refl, ap, inl, inr, ◌∙◌, arith}
use Rattle.std.specs.Prelude.{Contains}
use Rattle.std.specs.Int.{div_ceil}
use Rattle.std.proofs.lemmas.List.Sums.{sum_by-cons}
use Rattle.std.proofs.lemmas.Bool.{cases_lt}
use Rattle.std.proofs.lemmas.Grind.{div_ceil_times}
use Rattle.std.proofs.lemmas.Nat.{mul-le}
use Rattle.std.proofs.Math.Nat.{le_refl}
use Rattle.cut_wants.specs.declared.wants.Want.{Want}
use Rattle.cut_tree.specs.Tree.{Tree, count_of}
use Rattle.cut_wants.specs.Legal.{Legal, of_demand, worth_of, IsWithinCounts, HaveOwnDemands}
use Rattle.cut_sheets.specs.Bound.{AllLegal, total_count, Meets, worth_left}
use Rattle.cut_wants.proofs.LeafSums.{of_demand_found, Contains-head, Contains-tail, weigh, weigh-zero, weigh-add, weigh-count}

total_worth : List Want → List Tree → ℕ
total_worth wants [] = 0
total_worth wants (t ∷ ts) = worth_of wants t + total_worth wants ts

weigh-total : (wants : List Want) (ts : List Tree) → HaveOwnDemands wants → weigh (λ x. x.worth) (total_count ts) wants ≡ total_worth wants ts
unfolding total_worth
weigh-total wants [] own = weigh-zero (λ x. x.worth) wants
weigh-total wants (t ∷ ts) own =
    weigh-add (λ x. x.worth) (count_of t) (total_count ts) wants ∙ omega (arith, weigh-count (λ x. x.worth) wants t own, weigh-total wants ts own)

weigh-left : (wants xs : List Want) (g : ℕ → ℕ) → HaveOwnDemands wants → ((x : Want) → Contains xs x → Contains wants x)
    → ((d : ℕ) → g d ≡ of_demand (λ x. x.left) wants d) → weigh (λ x. x.worth) g xs ≡ worth_left xs
weigh-left wants [] g own sub exact = refl
weigh-left wants (x ∷ xs) g own sub exact =
    let left : g x.demand ≡ x.left = exact x.demand ∙ of_demand_found (λ y. y.left) wants x own (sub x (Contains-head x xs)) in
    omega (arith, ap (λ n. x.worth * n) left, weigh-left wants xs g own (λ y h. sub y (Contains-tail x xs y h)) exact, sum_by-cons (λ (y : Want). y.worth * y.left) x xs)

total_le : (wants : List Want) (k w h best : ℕ) (left : ℕ → ℕ) → ((t : Tree) → Legal wants k t w h → ((d : ℕ) → count_of t d ≤ left d) → worth_of wants t ≤ best)
    → (ts : List Tree) → AllLegal wants k w h ts → ((d : ℕ) → total_count ts d ≤ left d) → total_worth wants ts ≤ length ts * best
unfolding total_worth
total_le wants k w h best left each [] legal within = omega arith
total_le wants k w h best left each (t ∷ ts) legal within =
    let here = each t legal.0 (λ d. omega (arith, within d)) in
    let there = total_le wants k w h best left each ts legal.1 (λ d. omega (arith, within d)) in
    omega arith

-- any units that meet what is left are at least so many
pub units_hold : (wants : List Want) (k w h best : ℕ) (ts : List Tree) → HaveOwnDemands wants → 1 ≤ best
    → ((t : Tree) → Legal wants k t w h → IsWithinCounts wants t → worth_of wants t ≤ best) → Meets wants k w h ts → div_ceil (worth_left wants) best ≤ length ts
units_hold wants k w h best ts own pos each meets =
    let total = total_le wants k w h best (of_demand (λ x. x.left) wants) each ts meets.legal (λ d. omega (arith, meets.exact d)) in
    let sum = weigh-total wants ts own in
    let left = weigh-left wants wants (total_count ts) own (λ x h. h) meets.exact in
    let units = div_ceil (worth_left wants) best in
    let few : units * best < worth_left wants + best = (div_ceil_times (worth_left wants) best pos).1 in
    elim (cases_lt (length ts) units) [
      | inl more ↦
          let over : length ts + 1 ≤ units = omega arith in
          absurd (omega (arith, mul-le (length ts + 1) best units best over (le_refl best), few, total, sum, left))
      | inr le ↦ le
    ]
