-- Sums over the units of a solution, added up unit by unit or size by size.
use Rattle.std.proofs.Common.{◌≡◌, ℕ, zero, suc, ◌+◌, ◌*◌, ◌<◌, ◌≤◌, cond, eqb, List, [], ◌∷◌, Option, Some, None, refl, ap, subst, ◌∙◌, inl, inr, arith}
use Rattle.std.specs.Prelude.{All, IfSome, IfNone, IsSome, slice_get, sum_by, unwrap_or}
use Rattle.std.specs.Option.{option_map_or}
use Rattle.std.proofs.lemmas.Bool.{ne_eqb}
use Rattle.std.proofs.lemmas.Bool.Decides.{eqb_tells}
use Rattle.std.proofs.lemmas.Option.{get_or_from_slice_get, slice_get_within}
use Rattle.std.proofs.lemmas.List.Elements.{All-get_or, All-head, All-tail, All-weaker}
use Rattle.std.proofs.lemmas.List.Sums.{sum_by-cons}
use Rattle.std.proofs.lemmas.Nat.{mul-le}
use Rattle.std.proofs.Math.Nat.{le_refl}
use Rattle.cut_wants.specs.declared.wants.Want.{Want}
use Rattle.cut_bound.specs.declared.stock.StockSize.{StockSize}
use Rattle.cut_bound.specs.Solutions.{CutUnit, Solution, IsCutUnit, IsSolution, MakesAll, IsCostBound, cost_of, cost_at_hand, units_at}

-- what a list has at a unit's place
abbrev pub at : {A : Type 0} → (A → ℕ) → List A → CutUnit → ℕ
at f xs u = option_map_or f (slice_get xs u.place) 0

-- the list has something at the unit's place
pub record IsPlaced {A : Type 0} (xs : List A) (u : CutUnit) : Type 0 where
  pub item : A
  pub there : slice_get xs u.place ≡ Some item

pub at_place : {A : Type 0} (f : A → ℕ) (xs : List A) (u : CutUnit) (x : A) → slice_get xs u.place ≡ Some x → at f xs u ≡ f x
at_place f xs u x there = ap (λ o. option_map_or f o 0) there

pub each_at : {A : Type 0} (P : A → Type 0) (xs : List A) (i : ℕ) (x : A) → All P xs → slice_get xs i ≡ Some x → P x
each_at P xs i x all is = subst P (get_or_from_slice_get xs i x x is) (All-get_or P xs i x (slice_get_within xs i x is) all)

-- f of each element times what g gives its place
along : {A : Type 0} → (A → ℕ) → (ℕ → ℕ) → List A → ℕ
along f g [] = 0
along f g (x ∷ xs) = g 0 * f x + along f (λ i. g (suc i)) xs

along-same : {A : Type 0} (f : A → ℕ) (g h : ℕ → ℕ) (xs : List A) → ((i : ℕ) → g i ≡ h i) → along f g xs ≡ along f h xs
unfolding along
along-same f g h [] same = refl
along-same f g h (x ∷ xs) same = omega (arith, ap (λ n. n * f x) (same 0), along-same f (λ i. g (suc i)) (λ i. h (suc i)) xs (λ i. same (suc i)))

along-zero : {A : Type 0} (f : A → ℕ) (xs : List A) → along f (λ _. 0) xs ≡ 0
unfolding along
along-zero f [] = refl
along-zero f (x ∷ xs) = omega (arith, along-zero f xs)

along-add : {A : Type 0} (f : A → ℕ) (g h : ℕ → ℕ) (xs : List A) → along f (λ i. g i + h i) xs ≡ along f g xs + along f h xs
unfolding along
along-add f g h [] = refl
along-add f g h (x ∷ xs) = omega (arith, along-add f (λ i. g (suc i)) (λ i. h (suc i)) xs)

next_place : (p i : ℕ) → cond {A = ℕ} (eqb (suc p) (suc i)) 1 0 ≡ cond (eqb p i) 1 0
next_place p i =
    elim (eqb_tells p i) [
      | inl (test, same) ↦
          elim (eqb_tells (suc p) (suc i)) [
            | inl (test', same') ↦ rw (test, test') refl
            | inr (test', other') ↦ absurd (other' (ap suc same))
          ]
      | inr (test, other) ↦
          elim (eqb_tells (suc p) (suc i)) [
            | inl (test', same') ↦ absurd (other (omega arith))
            | inr (test', other') ↦ rw (test, test') refl
          ]
    ]

along-one : {A : Type 0} (f : A → ℕ) (xs : List A) (p : ℕ) (x : A) → slice_get xs p ≡ Some x → along f (λ i. cond (eqb p i) 1 0) xs ≡ f x
unfolding along
along-one f [] p x is = absurd (cc)
along-one f (y ∷ xs) zero x is =
    let e : y ≡ x = cc in
    let none = along-same f (λ i. cond (eqb zero (suc i)) 1 0) (λ _. 0) xs (λ i. rw (ne_eqb zero (suc i) (λ z. absurd (omega (arith, z)))) refl) in
    omega (arith, none, along-zero f xs, ap f e)
along-one f (y ∷ xs) (suc p) x is =
    let here : cond {A = ℕ} (eqb (suc p) 0) 1 0 ≡ 0 = rw (ne_eqb (suc p) 0 (λ z. absurd (omega (arith, z)))) refl in
    let next = along-same f (λ i. cond (eqb (suc p) (suc i)) 1 0) (λ i. cond (eqb p i) 1 0) xs (next_place p) in
    omega (arith, ap (λ n. n * f y) here, next, along-one f xs p x is)

along-units : {A : Type 0} (f : A → ℕ) (xs : List A) (us : Solution) → All (IsPlaced xs) us → along f (units_at us) xs ≡ sum_by (at f xs) us
along-units f xs [] placed = along-zero f xs
along-units f xs (u ∷ us) placed =
    let is = All-head (IsPlaced xs) u us placed in
    along-same f (units_at (u ∷ us)) (λ i. cond (eqb u.place i) 1 0 + units_at us i) xs (λ i. sum_by-cons (λ (v : CutUnit). cond (eqb v.place i) 1 0) u us)
    ∙ along-add f (λ i. cond (eqb u.place i) 1 0) (units_at us) xs
    ∙ omega (
      arith,
      along-one f xs u.place is.item is.there,
      along-units f xs us (All-tail (IsPlaced xs) u us placed),
      at_place f xs u is.item is.there,
      sum_by-cons (at f xs) u us,
    )

along-le : {A : Type 0} (f m : A → ℕ) (g : ℕ → ℕ) (xs : List A) → ((i : ℕ) (x : A) → slice_get xs i ≡ Some x → g i * f x ≤ m x) → along f g xs ≤ sum_by m xs
unfolding along
along-le f m g [] each = omega arith
along-le f m g (x ∷ xs) each = omega (arith, each 0 x refl, along-le f m (λ i. g (suc i)) xs (λ i y is. each (suc i) y is), sum_by-cons m x xs)

-- what the units of each size add up to is at most what all of it at hand would
pub units_le : {A : Type 0} (f m : A → ℕ) (xs : List A) (us : Solution) → All (IsPlaced xs) us → ((i : ℕ) (x : A) → slice_get xs i ≡ Some x → units_at us i * f x ≤ m x)
    → sum_by (at f xs) us ≤ sum_by m xs
units_le f m xs us placed each = omega (arith, along-units f xs us placed, along-le f m (units_at us) xs each)

-- so many units of a size that is limited, or of which nothing is counted
pub limited : (limit : Option ℕ) (n e : ℕ) → IfSome limit (λ m. n ≤ m) → IfNone limit (e ≡ 0) → n * e ≤ unwrap_or limit 0 * e
limited None n e few none = rw none (omega arith)
limited (Some m) n e few none = mul-le n e m e few (le_refl e)

-- ---- units cost no more than all at hand

has_limit : (limit : Option ℕ) (e : ℕ) → IsSome limit → IfNone limit (e ≡ 0)
has_limit None e some = absurd (cc)
has_limit (Some m) e some = tt

cost_le : (wants : List Want) (k : ℕ) (sizes : List StockSize) (us : Solution) → All (λ s. IsSome s.limit) sizes → IsSolution wants k sizes us → cost_of sizes us ≤ cost_at_hand sizes
cost_le wants k sizes us all is =
    units_le (λ (s : StockSize). s.cost) (λ (s : StockSize). unwrap_or s.limit 0 * s.cost) sizes us
    (All-weaker (IsCutUnit wants k sizes) (IsPlaced sizes) (λ u c. record { item = c.stock; there = c.there }) us is.legal)
    (λ i s there. limited s.limit (units_at us i) s.cost (is.at_hand i s there) (has_limit s.limit s.cost (each_at (λ (z : StockSize). IsSome z.limit) sizes i s all there)))

pub falls_short : (wants : List Want) (k : ℕ) (sizes : List StockSize) (bound : ℕ) → All (λ s. IsSome s.limit) sizes → IsCostBound wants k sizes bound → cost_at_hand sizes < bound
    → (us : Solution) → IsSolution wants k sizes us → MakesAll wants us → ⊥
falls_short wants k sizes bound all holds more us is makes = absurd (omega (arith, holds us is makes, cost_le wants k sizes us all is))
