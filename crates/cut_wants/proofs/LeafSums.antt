-- What a tree's leaves add up to, counted leaf by leaf or want by want.
use Rattle.std.proofs.Common.{◌≡◌, ◌≢◌, ℕ, zero, suc, ◌+◌, ◌*◌, true, false, cond, eqb, List, [], ◌∷◌, sym, refl, ap, ◌∙◌, inl, inr, ◌⊎◌, arith, eq-eqb}
use Rattle.std.proofs.Common.{◌<◌, length, take, get_or, subst}
use Rattle.std.specs.Prelude.{Contains}
use Rattle.std.proofs.lemmas.List.{take_more}
use Rattle.std.proofs.lemmas.List.Elements.{Contains-append_cases}
use Rattle.std.proofs.lemmas.Bool.{ne_eqb}
use Rattle.std.proofs.lemmas.Bool.Decides.{eqb_tells}
use Rattle.cut_wants.specs.declared.wants.Want.{Want}
use Rattle.cut_tree.specs.Tree.{Tree, leaf_sum, count_of, Rest, Piece, Trim, Cut}
use Rattle.cut_measure.specs.declared.sizes.Axis.TheVariants.{X, Y}
use Rattle.cut_wants.specs.Legal.{of_demand, HaveOwnDemands}

pub Contains-cases : (y : Want) (ys : List Want) (x : Want) → Contains (y ∷ ys) x → (y ≡ x) ⊎ Contains ys x
Contains-cases y ys x (zero, lt, e) = inl e
Contains-cases y ys x (suc k, lt, e) = inr (k, omega arith, e)

pub Contains-head : (y : Want) (ys : List Want) → Contains (y ∷ ys) y
Contains-head y ys = (0, omega arith, refl)

pub Contains-tail : (y : Want) (ys : List Want) (x : Want) → Contains ys x → Contains (y ∷ ys) x
Contains-tail y ys x (k, lt, e) = (suc k, omega arith, e)

-- what holds of each of the first wants, and of the next
pub first_each : (P : Want → Type 0) (xs : List Want) (i : ℕ) (d : Want) → i < length xs → ((x : Want) → Contains (take i xs) x → P x) → P (get_or xs i d)
    → (x : Want) → Contains (take (i + 1) xs) x → P x
first_each P xs i d lt before here x has =
    elim (Contains-append_cases (take i xs) (get_or xs i d ∷ []) x (rw (take_more xs i d lt) at has)) [
      | inl h ↦ before x h
      | inr h ↦ elim (Contains-cases (get_or xs i d) [] x h) [
        | inl same ↦ subst P same here
        | inr none ↦ absurd (omega (arith, none.1))
      ]
    ]

Contains-none : (x : Want) → Contains [] x → {P : Type 0} → P
Contains-none x (k, lt, e) = absurd (omega arith)

pub of_demand_found : (f : Want → ℕ) (wants : List Want) (x : Want) → HaveOwnDemands wants → Contains wants x → of_demand f wants x.demand ≡ f x
of_demand_found f [] x own has = Contains-none x has
of_demand_found f (y ∷ ys) x own has =
    elim (Contains-cases y ys x has) [
      | inl e ↦
          let same : eqb y.demand x.demand ≡ true = eq-eqb y.demand x.demand (ap (λ (z : Want). z.demand) e) in
          rw same (ap f e)
      | inr h ↦
          let other : eqb y.demand x.demand ≡ false = ne_eqb y.demand x.demand (λ e. own.0 x h (sym e)) in
          rw other (of_demand_found f ys x own.1 h)
    ]

-- f of each want times what g gives its demand
abbrev pub weigh : (Want → ℕ) → (ℕ → ℕ) → List Want → ℕ
weigh f g [] = 0
weigh f g (x ∷ xs) = f x * g x.demand + weigh f g xs

pub weigh-zero : (f : Want → ℕ) (xs : List Want) → weigh f (λ _. 0) xs ≡ 0
weigh-zero f [] = refl
weigh-zero f (x ∷ xs) = omega (arith, weigh-zero f xs)

pub weigh-add : (f : Want → ℕ) (g h : ℕ → ℕ) (xs : List Want) → weigh f (λ d. g d + h d) xs ≡ weigh f g xs + weigh f h xs
weigh-add f g h [] = refl
weigh-add f g h (x ∷ xs) = omega (arith, weigh-add f g h xs)

weigh-absent : (f : Want → ℕ) (d : ℕ) (xs : List Want) → ((y : Want) → Contains xs y → y.demand ≢ d) → weigh f (λ e. cond (eqb d e) 1 0) xs ≡ 0
weigh-absent f d [] absent = refl
weigh-absent f d (x ∷ xs) absent =
    let other : eqb d x.demand ≡ false = ne_eqb d x.demand (λ e. absent x (Contains-head x xs) (sym e)) in
    let below = weigh-absent f d xs (λ y h. absent y (Contains-tail x xs y h)) in
    rw other (omega (arith, below))

weigh-one : (f : Want → ℕ) (d : ℕ) (xs : List Want) → HaveOwnDemands xs → weigh f (λ e. cond (eqb d e) 1 0) xs ≡ of_demand f xs d
weigh-one f d [] own = refl
weigh-one f d (x ∷ xs) own =
    elim (eqb_tells d x.demand) [
      | inl (t, e) ↦
          let t' : eqb x.demand d ≡ true = eq-eqb x.demand d (sym e) in
          let gone = weigh-absent f d xs (λ y h q. own.0 y h (q ∙ e)) in
          rw (t, t') (omega (arith, gone))
      | inr (t, n) ↦
          let t' : eqb x.demand d ≡ false = ne_eqb x.demand d (λ q. n (sym q)) in
          rw (t, t') (omega (arith, weigh-one f d xs own.1))
    ]

-- counted want by want or leaf by leaf, the sum is the same
pub weigh-count : (f : Want → ℕ) (xs : List Want) (t : Tree) → HaveOwnDemands xs → weigh f (λ d. count_of t d) xs ≡ leaf_sum (of_demand f xs) t
weigh-count f xs Rest own = weigh-zero f xs
weigh-count f xs (Piece d b) own = weigh-one f d xs own
weigh-count f xs (Trim X a t) own = weigh-count f xs t own
weigh-count f xs (Trim Y a t) own = weigh-count f xs t own
weigh-count f xs (Cut X a t u) own = weigh-add f (count_of t) (count_of u) xs ∙ omega (arith, weigh-count f xs t own, weigh-count f xs u own)
weigh-count f xs (Cut Y a t u) own = weigh-add f (count_of t) (count_of u) xs ∙ omega (arith, weigh-count f xs t own, weigh-count f xs u own)
