-- Units of several sizes, added up unit by unit or size by size: what they are worth is paid for.
use Rattle.std.proofs.Common.{◌≡◌, ℕ, zero, suc, ◌+◌, ◌-◌, ◌*◌, ◌<◌, ◌≤◌, List, [], ◌∷◌, get_or, Some, None, sym, refl, ap, subst, ◌∙◌, inl, inr, arith}
use Rattle.std.specs.Prelude.{All, Contains, IfNone, min, slice_get, sum_by, unwrap_or}
use Rattle.std.specs.Int.{div_ceil}
use Rattle.std.specs.Option.{option_map_or}
use Rattle.std.proofs.lemmas.Bool.{cases_lt}
use Rattle.std.proofs.lemmas.Grind.{div_ceil_times}
use Rattle.std.proofs.lemmas.List.Elements.{All-cons, All-head, All-nil, All-tail, All-weaker}
use Rattle.std.proofs.lemmas.List.Sums.{sum_by-cons}
use Rattle.std.proofs.lemmas.Nat.{mul-le}
use Rattle.std.proofs.Math.Nat.{le_refl}
use Rattle.cut_tree.specs.Tree.{count_of}
use Rattle.cut_wants.specs.declared.wants.Want.{Want}
use Rattle.cut_wants.specs.Legal.{Legal, of_demand, HaveOwnDemands}
use Rattle.cut_wants.proofs.LeafSums.{Contains-head, Contains-tail, of_demand_found, weigh, weigh-zero, weigh-add}
use Rattle.cut_sheets.specs.Bound.{worth_left}
use Rattle.cut_bound.specs.declared.stock.StockSize.{StockSize}
use Rattle.cut_bound.specs.declared.stock.BoundedSize.{BoundedSize}
use Rattle.cut_bound.specs.Solutions.{CutUnit, Solution, IsCutUnit, IsSolution, MakesAll, cost_of, pieces_of, units_at}
use Rattle.cut_bound.specs.Bounds.{AreBounded, IsGreatestCost, IsMost, SetsPrice, cost_at, excess, excess_at_hand, sizes_of}
use Rattle.cut_bound.proofs.TrimmedTrees.{trimmed_worth, weigh-le}
use Rattle.cut_bound.proofs.UnitSums.{IsPlaced, at, at_place, each_at, limited, units_le}

-- ---- the size of a unit

-- a unit of one of the sizes
record IsBoundedUnit (wants : List Want) (k : ℕ) (bounded : List BoundedSize) (u : CutUnit) : Type 0 where
  size : BoundedSize
  there : slice_get bounded u.place ≡ Some size
  same : slice_get (sizes_of bounded) u.place ≡ Some size.stock
  legal : Legal wants k u.tree size.stock.size.w size.stock.size.h

find_size : (bounded : List BoundedSize) (i : ℕ) (s : StockSize) → slice_get (sizes_of bounded) i ≡ Some s → (r : BoundedSize) × (slice_get bounded i ≡ Some r) × (r.stock ≡ s)
find_size [] i s is = absurd (cc)
find_size (r ∷ rs) zero s is = (r, refl, cc)
find_size (r ∷ rs) (suc i) s is = find_size rs i s is

size_at : (bounded : List BoundedSize) (i : ℕ) (r : BoundedSize) → slice_get bounded i ≡ Some r → slice_get (sizes_of bounded) i ≡ Some r.stock
size_at [] i r is = absurd (cc)
size_at (q ∷ rs) zero r is = let e : q ≡ r = cc in ap (λ (z : BoundedSize). Some z.stock) e
size_at (q ∷ rs) (suc i) r is = size_at rs i r is

bounded_unit : (wants : List Want) (k : ℕ) (bounded : List BoundedSize) (u : CutUnit) → IsCutUnit wants k (sizes_of bounded) u → IsBoundedUnit wants k bounded u
bounded_unit wants k bounded u is =
    let f = find_size bounded u.place is.stock is.there in
    record {
      size = f.0;
      there = f.1;
      same = size_at bounded u.place f.0 f.1;
      legal = subst (λ (s : StockSize). Legal wants k u.tree s.size.w s.size.h) (sym f.2) is.legal;
    }

-- ---- all that is left is worth no more than the best of the units

best_sum : List BoundedSize → Solution → ℕ
best_sum bounded us = sum_by (at (λ r. r.best) bounded) us

worth_le : (wants : List Want) (k : ℕ) (bounded : List BoundedSize) → HaveOwnDemands wants → AreBounded wants k bounded → (us : Solution) → All (IsCutUnit wants k (sizes_of bounded)) us
    → weigh (λ x. x.worth) (λ d. min (pieces_of us d) (of_demand (λ x. x.left) wants d)) wants ≤ best_sum bounded us
unfolding best_sum
worth_le wants k bounded own most [] legal =
    omega (
      arith,
      weigh-le (λ x. x.worth) (λ d. min (pieces_of [] d) (of_demand (λ x. x.left) wants d)) (λ _. 0) wants (λ x has. omega arith),
      weigh-zero (λ x. x.worth) wants,
    )
worth_le wants k bounded own most (u ∷ us) legal =
    let left : ℕ → ℕ = of_demand (λ x. x.left) wants in
    let is = bounded_unit wants k bounded u (All-head (IsCutUnit wants k (sizes_of bounded)) u us legal) in
    let here : ℕ → ℕ = λ d. min (count_of u.tree d) (left d) in
    let there : ℕ → ℕ = λ d. min (pieces_of us d) (left d) in
    omega (
      arith,
      weigh-le (λ x. x.worth) (λ d. min (pieces_of (u ∷ us) d) (left d)) (λ d. here d + there d) wants (λ x has. omega (arith, sum_by-cons (λ (v : CutUnit). count_of v.tree x.demand) u us)),
      weigh-add (λ x. x.worth) here there wants,
      trimmed_worth wants k is.size.stock.size is.size.best u.tree own (each_at (λ (r : BoundedSize). IsMost wants k r.stock.size r.best) bounded u.place is.size most is.there) is.legal,
      worth_le wants k bounded own most us (All-tail (IsCutUnit wants k (sizes_of bounded)) u us legal),
      at_place (λ (r : BoundedSize). r.best) bounded u is.size is.there,
      sum_by-cons (at (λ r. r.best) bounded) u us,
    )

weigh_left : (g : ℕ → ℕ) (xs : List Want) → ((x : Want) → Contains xs x → g x.demand ≡ x.left) → weigh (λ x. x.worth) g xs ≡ worth_left xs
weigh_left g [] each = refl
weigh_left g (x ∷ xs) each =
    omega (
      arith,
      ap (λ n. x.worth * n) (each x (Contains-head x xs)),
      weigh_left g xs (λ y has. each y (Contains-tail x xs y has)),
      sum_by-cons (λ (y : Want). y.worth * y.left) x xs,
    )

left_le : (wants : List Want) (k : ℕ) (bounded : List BoundedSize) → HaveOwnDemands wants → AreBounded wants k bounded → (us : Solution) → IsSolution wants k (sizes_of bounded) us → MakesAll wants us
    → worth_left wants ≤ best_sum bounded us
left_le wants k bounded own most us is all =
    let left : ℕ → ℕ = of_demand (λ x. x.left) wants in
    omega (
      arith,
      worth_le wants k bounded own most us is.legal,
      weigh_left (λ d. min (pieces_of us d) (left d)) wants (λ x has. omega (arith, all x has, of_demand_found (λ y. y.left) wants x own has)),
    )

-- ---- the best of the units is paid for, or in excess

paid : (wants : List Want) (k : ℕ) (bounded : List BoundedSize) (t : BoundedSize) (us : Solution) → All (IsCutUnit wants k (sizes_of bounded)) us
    → t.stock.cost * best_sum bounded us ≤ cost_of (sizes_of bounded) us * t.best + sum_by (at (excess t) bounded) us
unfolding best_sum
paid wants k bounded t [] legal = omega arith
paid wants k bounded t (u ∷ us) legal =
    let is = bounded_unit wants k bounded u (All-head (IsCutUnit wants k (sizes_of bounded)) u us legal) in
    one t.stock.cost t.best is.size.best is.size.stock.cost _ _ _ _ _ _
    (sum_by-cons (at (λ r. r.best) bounded) u us ∙ ap (λ n. n + best_sum bounded us) (at_place (λ (r : BoundedSize). r.best) bounded u is.size is.there))
    (sum_by-cons (λ (v : CutUnit). option_map_or (λ (s : StockSize). s.cost) (slice_get (sizes_of bounded) v.place) 0) u us
    ∙ ap (λ o. option_map_or (λ (s : StockSize). s.cost) o 0 + cost_of (sizes_of bounded) us) is.same)
    (sum_by-cons (at (excess t) bounded) u us ∙ ap (λ n. n + sum_by (at (excess t) bounded) us) (at_place (excess t) bounded u is.size is.there))
    (paid wants k bounded t us (All-tail (IsCutUnit wants k (sizes_of bounded)) u us legal))
  where
    one : (c b best cost bests costs overs bests' costs' overs' : ℕ) → bests' ≡ best + bests → costs' ≡ cost + costs → overs' ≡ (c * best - cost * b) + overs
        → c * bests ≤ costs * b + overs → c * bests' ≤ costs' * b + overs'
    one c b best cost bests costs overs bests' costs' overs' e f g le = rw (e, f, g) (omega arith)

-- ---- the excess of the units is at most that of all at hand

excess_le : (wants : List Want) (k : ℕ) (bounded : List BoundedSize) (t : BoundedSize) (us : Solution) → SetsPrice t bounded → IsSolution wants k (sizes_of bounded) us
    → sum_by (at (excess t) bounded) us ≤ excess_at_hand t bounded
excess_le wants k bounded t us price is =
    units_le (excess t) (λ r. unwrap_or r.stock.limit 0 * excess t r) bounded us
    (All-weaker (IsCutUnit wants k (sizes_of bounded)) (IsPlaced bounded) (λ u c. let r = bounded_unit wants k bounded u c in record { item = r.size; there = r.there }) us is.legal)
    (λ i r there. limited r.stock.limit (units_at us i) (excess t r) (is.at_hand i r.stock (size_at bounded i r there))
    (each_at (λ (q : BoundedSize). IfNone q.stock.limit (excess t q ≡ 0)) bounded i r price.unbeaten there))

-- ---- the bound

pub ceil_le : (a b c : ℕ) → 1 ≤ b → a ≤ c * b → div_ceil a b ≤ c
ceil_le a b c some le =
    let few : div_ceil a b * b < a + b = (div_ceil_times a b some).1 in
    elim (cases_lt c (div_ceil a b)) [
      | inl more ↦
          let over : c + 1 ≤ div_ceil a b = omega arith in
          absurd (omega (arith, mul-le (c + 1) b (div_ceil a b) b over (le_refl b), few, le))
      | inr most ↦ most
    ]

chain : (c b worth bests costs overs most : ℕ) → worth ≤ bests → c * bests ≤ costs * b + overs → overs ≤ most → c * worth - most ≤ costs * b
chain c b worth bests costs overs most low paid few = omega (arith, mul-le c worth c bests (le_refl c) low)

pub bound_holds : (wants : List Want) (k : ℕ) (bounded : List BoundedSize) (t : BoundedSize) → HaveOwnDemands wants → AreBounded wants k bounded → SetsPrice t bounded
    → (us : Solution) → IsSolution wants k (sizes_of bounded) us → MakesAll wants us → cost_at t bounded (worth_left wants) ≤ cost_of (sizes_of bounded) us
bound_holds wants k bounded t own most price us is all =
    ceil_le _ t.best (cost_of (sizes_of bounded) us) price.some
    (chain t.stock.cost t.best (worth_left wants) (best_sum bounded us) (cost_of (sizes_of bounded) us) (sum_by (at (excess t) bounded) us) (excess_at_hand t bounded)
    (left_le wants k bounded own most us is all) (paid wants k bounded t us is.legal) (excess_le wants k bounded t us price is))

-- of one size without a limit and a cost of 1
pub units_of_one : (t : BoundedSize) (worth cost : ℕ) → t.stock.cost ≡ 1 → t.stock.limit ≡ None → 1 ≤ t.best → IsGreatestCost (t ∷ []) worth cost → cost ≡ div_ceil worth t.best
units_of_one t worth cost one none some g =
    let sets : SetsPrice t (t ∷ []) = record {
      some = some;
      unbeaten = All-cons (λ (r : BoundedSize). IfNone r.stock.limit (excess t r ≡ 0)) t [] (subst (λ o. IfNone o (excess t t ≡ 0)) (sym none) (omega arith)) (All-nil (λ (r : BoundedSize). IfNone r.stock.limit (excess t r ≡ 0)));
    } in
    let least : cost_at t (t ∷ []) worth ≤ cost = All-head (λ (r : BoundedSize). SetsPrice r (t ∷ []) → cost_at r (t ∷ []) worth ≤ cost) t [] g.most sets in
    let exact : cost_at t (t ∷ []) worth ≡ div_ceil worth t.best = ap (λ n. div_ceil n t.best) (rest t.stock.cost worth (excess_at_hand t (t ∷ [])) one over) in
    elim g.reached [
      | inl zeros ↦ omega (arith, least, exact, zeros)
      | inr (i, r, lt, at, (is, e)) ↦ e ∙ ap (λ (q : BoundedSize). cost_at q (t ∷ []) worth) (only i r lt at) ∙ exact
    ]
  where
    rest : (c w e : ℕ) → c ≡ 1 → e ≡ 0 → c * w - e ≡ w
    rest c w e one over = rw (one, over) (omega arith)

    over : excess_at_hand t (t ∷ []) ≡ 0
    over = sum_by-cons (λ (r : BoundedSize). unwrap_or r.stock.limit 0 * excess t r) t [] ∙ ap (λ o. unwrap_or o 0 * excess t t + 0) none ∙ omega arith

    only : (i : ℕ) (r : BoundedSize) → i < 1 → get_or (t ∷ []) i r ≡ r → r ≡ t
    only zero r lt at = sym at
    only (suc i) r lt at = absurd (omega arith)
