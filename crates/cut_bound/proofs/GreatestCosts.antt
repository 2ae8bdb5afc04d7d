-- The greatest of some numbers, as far as a loop has come.
use Rattle.std.proofs.Common.{◌≡◌, ◌⊎◌, ℕ, ◌+◌, ◌<◌, ◌≤◌, List, length, take, take_all, get_or, sym, subst, inl, inr, arith}
use Rattle.std.specs.Prelude.{All, Any, max}
use Rattle.std.proofs.lemmas.Bool.{cases_lt}
use Rattle.std.proofs.lemmas.List.Elements.{All-get_or, All-more, All-weaker}
use Rattle.cut_bound.specs.Bounds.{IsGreatest}

pub record IsGreatestSoFar {A : Type 0} (P : A → Type 0) (f : A → ℕ) (xs : List A) (i greatest : ℕ) : Type 0 where
  pub reached : (greatest ≡ 0) ⊎ Any (λ x. P x × (greatest ≡ f x)) xs
  pub most : All (λ x. P x → f x ≤ greatest) (take i xs)

-- the next is one of them
pub greatest_next : {A : Type 0} (P : A → Type 0) (f : A → ℕ) (xs : List A) (i old new : ℕ) (x : A) → i < length xs → x ≡ get_or xs i x → P x → new ≡ max (f x) old
    → IsGreatestSoFar P f xs i old → IsGreatestSoFar P f xs (i + 1) new
greatest_next {A} P f xs i old new x lt is holds greater g =
    record {
      reached = elim (cases_lt old (f x)) [
        | inl more ↦ inr (i, x, lt, sym is, (holds, omega arith))
        | inr less ↦
            let same : old ≡ new = omega arith in
            subst (λ n. (n ≡ 0) ⊎ Any (λ y. P y × (n ≡ f y)) xs) same g.reached
      ];
      most = All-more (λ (y : A). P y → f y ≤ new) xs i x lt
          (All-weaker (λ (y : A). P y → f y ≤ old) (λ (y : A). P y → f y ≤ new) (λ y each p. omega (arith, each p)) (take i xs) g.most)
          (subst (λ (y : A). P y → f y ≤ new) is (λ _. omega arith));
    }

-- it is not
pub greatest_same : {A : Type 0} (P : A → Type 0) (f : A → ℕ) (xs : List A) (i old : ℕ) (x : A) → i < length xs → x ≡ get_or xs i x → (P x → ⊥)
    → IsGreatestSoFar P f xs i old → IsGreatestSoFar P f xs (i + 1) old
greatest_same {A} P f xs i old x lt is never g =
    record { reached = g.reached; most = All-more (λ (y : A). P y → f y ≤ old) xs i x lt g.most (subst (λ (y : A). P y → f y ≤ old) is (λ p. absurd (never p))) }

pub greatest_all : {A : Type 0} (P : A → Type 0) (f : A → ℕ) (xs : List A) (i greatest : ℕ) → length xs ≤ i → IsGreatestSoFar P f xs i greatest → IsGreatest P f xs greatest
greatest_all {A} P f xs i greatest all g = record {
  reached = g.reached;
  most = subst (λ (ys : List A). All (λ y. P y → f y ≤ greatest) ys) (take_all i xs all) g.most;
}

-- ---- the least that none exceeds

pub record IsLeastSoFar {A : Type 0} (f : A → ℕ) (xs : List A) (i most : ℕ) : Type 0 where
  pub each : All (λ x. f x ≤ most) (take i xs)
  pub least : (bound : ℕ) → All (λ x. f x ≤ bound) xs → most ≤ bound

pub least_next : {A : Type 0} (f : A → ℕ) (xs : List A) (i old new : ℕ) (x : A) → i < length xs → x ≡ get_or xs i x → new ≡ max (f x) old → IsLeastSoFar f xs i old → IsLeastSoFar f xs (i + 1) new
least_next {A} f xs i old new x lt is greater g = record {
  each = All-more (λ (y : A). f y ≤ new) xs i x lt (All-weaker (λ (y : A). f y ≤ old) (λ (y : A). f y ≤ new) (λ y le. omega arith) (take i xs) g.each) (subst (λ (y : A). f y ≤ new) is (omega arith));
  least = λ bound all.
      let here : f x ≤ bound = subst (λ (y : A). f y ≤ bound) (sym is) (All-get_or (λ (y : A). f y ≤ bound) xs i x lt all) in
      omega (arith, g.least bound all);
}

pub least_all : {A : Type 0} (f : A → ℕ) (xs : List A) (i most : ℕ) → length xs ≤ i → IsLeastSoFar f xs i most → All (λ x. f x ≤ most) xs
least_all {A} f xs i most all g = subst (λ (ys : List A). All (λ y. f y ≤ most) ys) (take_all i xs all) g.each
