-- A halt after the first cuts, and the same one with these cuts listed.
use Rattle.std.proofs.Common.{◌≡◌, ◌<◌, ◌⊎◌, ◌∙◌, ◌||◌, ◌==◌, ℕ, zero, suc, Bool, true, false, [], ◌∷◌, Some, None, if◌then◌else◌, nat_lt, refl, sym, inl, inr, arith}
use Rattle.std.proofs.lemmas.Bool.{true≢false, or_cases, or_left, or_right, eqb-true, eq-eqb, ltb_from_iff, cases_order}
use Rattle.std.proofs.lemmas.List.Folds.{list_any-append}
use Rattle.cut_measure.specs.Measures.{below}
use Rattle.cut_tree.specs.declared.halts.Halt.TheVariants.{First, Listed}
use Rattle.cut_tree.specs.Stops.{is_among, is_wrong, is_lost, outcome_after}

among_suc : (n c : ℕ) → is_among (below (suc n)) c ≡ (is_among (below n) c || is_among (n ∷ []) c)
among_suc n c = list_any-append (λ d. d == c) (below n) (n ∷ [])

among_one : (n c : ℕ) → is_among (n ∷ []) c ≡ true → n ≡ c
among_one n c e = at (or_cases (n == c) false e)
  where
    at : ((n == c) ≡ true) ⊎ (false ≡ true) → n ≡ c
    at (inl e) = eqb-true n c e
    at (inr e) = absurd (true≢false (sym e))

step_to : (n c : ℕ) → (is_among (below n) c ≡ true → c < n) → (is_among (below n) c ≡ true) ⊎ (is_among (n ∷ []) c ≡ true) → c < suc n
step_to n c earlier (inl e) = let l = earlier e in omega (arith, l)
step_to n c earlier (inr e) = let l = among_one n c e in omega (arith, l)

pub among_to : (n c : ℕ) → is_among (below n) c ≡ true → c < n
among_to zero c e = absurd (true≢false (sym e))
among_to (suc n) c e = step_to n c (among_to n c) (or_cases _ _ (sym (among_suc n c) ∙ e))

step_from : (n c : ℕ) → (c < n → is_among (below n) c ≡ true) → c < suc n → (c ≡ n) ⊎ (c < n) ⊎ (n < c) → is_among (below (suc n)) c ≡ true
step_from n c earlier l (inl e) = among_suc n c ∙ or_right _ _ (or_left (n == c) false (eq-eqb n c (sym e)))
step_from n c earlier l (inr (inl below)) = among_suc n c ∙ or_left _ _ (earlier below)
step_from n c earlier l (inr (inr above)) = absurd (omega (arith, l, above))

pub among_from : (n c : ℕ) → c < n → is_among (below n) c ≡ true
among_from zero c l = absurd (omega (arith, l))
among_from (suc n) c l = step_from n c (among_from n c) l (cases_order c n)

-- the numbers below n are those less than n
pub among_below : (n c : ℕ) → is_among (below n) c ≡ nat_lt c n
among_below n c = ltb_from_iff (among_to n c, among_from n c)

-- the cut after the listed ones went wrong, or none
same_lost : (cuts c : ℕ) (lost : Bool) → is_wrong (if lost then Some cuts else None) c ≡ is_lost (First cuts lost) c
same_lost cuts c true = refl
same_lost cuts c false = refl

-- both forms say the same of each cut
pub one_outcome : (cuts c : ℕ) (lost : Bool)
    → outcome_after (Listed (below cuts) (if lost then Some cuts else None)) c ≡ outcome_after (First cuts lost) c
one_outcome cuts c lost = rw (among_below cuts c, same_lost cuts c lost) refl
