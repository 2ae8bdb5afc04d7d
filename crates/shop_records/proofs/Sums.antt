-- Sums over the values of a map into which a row is put.
use Rattle.std.proofs.Common.{◌≡◌, ℕ, ◌+◌, List, [], ◌∷◌, map, Bool, true, false, refl, ap, ◌∙◌, arith}
use Rattle.std.specs.Prelude.{Some, None, T, sum_by, ◌&&◌, cond}
use Rattle.std.specs.declared.cmp.Ordering.{Ordering}
use Rattle.std.specs.declared.cmp.Ordering.TheVariants.{Less, Equal, Greater}
use Rattle.std.specs.Ordering.{is_lt, is_eq}
use Rattle.std.specs.Cmp.{IsTotalOrder}
use Rattle.std.specs.FinMap.{FinMap, entries, entries_sorted, entries-insert, get, get-entries, insert, values, find, put, is_sorted}
use Rattle.std.specs.FinMap.Entries.{below_all, by_order}
use Rattle.std.proofs.lemmas.List.Sums.{sum_by-cons}
use Rattle.shop_records.specs.Content.{of_found}

pub first : (a b : Bool) → T (a && b) → T a
first true b p = tt
first false b p = p

pub second : (a b : Bool) → T (a && b) → T b
second true b p = p
second false b p = absurd p

pub less : (o : Ordering) → T (is_lt o) → o ≡ Less
less Less p = refl
less Equal p = absurd p
less Greater p = absurd p

module _ {K X : Type 0} {R : K → K → Ordering} (o : IsTotalOrder R) where
  -- what is below the first key is found nowhere
  pub none_below : (q x : K) (es : List (K × X)) → R q x ≡ Less → T (below_all R x es) → find R q es ≡ None
  none_below q x [] p h = refl
  none_below q x (e ∷ es) p h =
      ap (λ r. cond (is_eq r) (Some e.1) (find R q es)) (o.trans q x e.0 p (less _ (first _ _ h))) ∙ none_below q x es p (second _ _ h)

  module _ (f : X → ℕ) where
    abbrev sum_of : List (K × X) → ℕ
    sum_of es = sum_by f (map (λ e. e.1) es)

    before : (k : K) (v : X) (e : K × X) (es : List (K × X)) → find R k es ≡ None → sum_of ((k, v) ∷ e ∷ es) + of_found f (find R k es) ≡ sum_of (e ∷ es) + f v
    before k v e es none = omega (arith, sum_by-cons f v (map (λ e. e.1) (e ∷ es)), ap (of_found f) none)

    here : (v : X) (e : K × X) (es : List (K × X)) → sum_of ((e.0, v) ∷ es) + f e.1 ≡ sum_of (e ∷ es) + f v
    here v e es = omega (arith, sum_by-cons f v (map (λ e. e.1) es), sum_by-cons f e.1 (map (λ e. e.1) es))

    later : (e : K × X) (es fs : List (K × X)) (n m : ℕ) → sum_of fs + n ≡ sum_of es + m → sum_of (e ∷ fs) + n ≡ sum_of (e ∷ es) + m
    later e es fs n m is = omega (arith, sum_by-cons f e.1 (map (λ e. e.1) es), sum_by-cons f e.1 (map (λ e. e.1) fs))

    pub sum-put : (k : K) (v : X) (es : List (K × X)) → T (is_sorted R es) → sum_of (put R k v es) + of_found f (find R k es) ≡ sum_of es + f v
    sum-put k v [] h = omega (arith, sum_by-cons f v [])
    sum-put k v (e ∷ es) h =
        elim (R k e.0) as (λ r. R k e.0 ≡ r → sum_of (by_order r ((k, v) ∷ e ∷ es) ((e.0, v) ∷ es) (e ∷ put R k v es)) + of_found f (cond (is_eq r) (Some e.1) (find R k es)) ≡ sum_of (e ∷ es) + f v) [
          | Less ↦ λ p. before k v e es (none_below k e.0 es p (first _ _ h))
          | Equal ↦ λ p. here v e es
          | Greater ↦ λ p. later e es (put R k v es) (of_found f (find R k es)) (f v) (sum-put k v es (second _ _ h))
        ] refl

    -- the sum after a row was put, and the number of the row that it replaced
    pub sum-insert : (m : FinMap R X) (k : K) (v : X) → sum_by f (values (insert m k v)) + of_found f (get m k) ≡ sum_by f (values m) + f v
    sum-insert m k v =
        ap (λ es. sum_of es + of_found f (get m k)) (entries-insert o m k v) ∙ ap (λ r. sum_of (put R k v (entries m)) + of_found f r) (get-entries m k)
        ∙ sum-put k v (entries m) (entries_sorted m)
