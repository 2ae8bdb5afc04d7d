-- How many slots pass a test, as some of them change.
use Rattle.std.proofs.Common.{◌≡◌, ◌≢◌, ℕ, zero, suc, ◌+◌, ◌≤◌, Bool, true, false, cond, List, [], ◌∷◌, get_or, count_by, refl, sym, ap, arith}
use Rattle.std.proofs.lemmas.List.Sums.{sum_by-cons}
use Rattle.std.specs.Prelude.{Option, None}

suc-differs : (a b : ℕ) → a ≢ b → suc a ≢ suc b
suc-differs a b differs same = differs (omega (arith, same))

suc-zero : (a : ℕ) → suc a ≢ 0
suc-zero a same = omega (arith, same)

-- a test that an empty slot doesn't pass
module _ {X : Type 0} (passes : Option X → Bool) (none : passes None ≡ false) where
  -- one for a slot that passes
  abbrev pub one : Option X → ℕ
  one slot = cond (passes slot) 1 0

  pub one-none : one None ≡ 0
  one-none = ap (λ b. cond b 1 0) none

  pub one-most : (slot : Option X) → one slot ≤ 1
  one-most slot = by_test (passes slot)
    where
      by_test : (b : Bool) → cond b 1 0 ≤ 1
      by_test true = omega arith
      by_test false = omega arith

  pub count-cons : (slot : Option X) (rest : List (Option X)) → count_by passes (slot ∷ rest) ≡ one slot + count_by passes rest
  count-cons slot rest = sum_by-cons one slot rest

  -- no more pass at any key
  abbrev pub Fewer : List (Option X) → List (Option X) → Type 0
  Fewer old new = (key : ℕ) → one (get_or new key None) ≤ one (get_or old key None)

  pub count-fewer : (old new : List (Option X)) → Fewer old new → count_by passes new ≤ count_by passes old
  count-fewer [] [] fewer = omega arith
  count-fewer [] (n ∷ new) fewer =
      omega (arith, count-cons n new, count-fewer [] new (λ key. fewer (suc key)), fewer 0, one-none)
  count-fewer (o ∷ old) [] fewer =
      omega (arith, count-cons o old, count-fewer old [] (λ key. fewer (suc key)))
  count-fewer (o ∷ old) (n ∷ new) fewer =
      omega (arith, count-cons o old, count-cons n new, count-fewer old new (λ key. fewer (suc key)), fewer 0)

  -- the same at every key
  count-same : (old new : List (Option X)) → ((key : ℕ) → get_or new key None ≡ get_or old key None) → count_by passes new ≡ count_by passes old
  count-same old new same =
      omega (arith, count-fewer old new (λ key. omega (arith, ap one (same key))), count-fewer new old (λ key. omega (arith, ap one (same key))))

  -- the same but at one key
  pub count-but : (key : ℕ) (old new : List (Option X)) → ((other : ℕ) → other ≢ key → get_or new other None ≡ get_or old other None)
      → count_by passes new + one (get_or old key None) ≡ count_by passes old + one (get_or new key None)
  count-but zero [] [] same = refl
  count-but zero [] (n ∷ new) same = omega (arith, count-cons n new, one-none, count-same [] new (λ key. same (suc key) (suc-zero key)))
  count-but zero (o ∷ old) [] same = omega (arith, count-cons o old, one-none, count-same old [] (λ key. same (suc key) (suc-zero key)))
  count-but zero (o ∷ old) (n ∷ new) same =
      omega (arith, count-cons o old, count-cons n new, count-same old new (λ key. same (suc key) (suc-zero key)))
  count-but (suc key) [] [] same = refl
  count-but (suc key) [] (n ∷ new) same =
      omega (arith, count-cons n new, one-none, count-but key [] new (λ other differs. same (suc other) (suc-differs other key differs)), ap one (same 0 (λ e. suc-zero key (sym e))))
  count-but (suc key) (o ∷ old) [] same =
      omega (arith, count-cons o old, one-none, count-but key old [] (λ other differs. same (suc other) (suc-differs other key differs)), ap one (same 0 (λ e. suc-zero key (sym e))))
  count-but (suc key) (o ∷ old) (n ∷ new) same =
      omega (
        arith,
        count-cons o old,
        count-cons n new,
        count-but key old new (λ other differs. same (suc other) (suc-differs other key differs)),
        ap one (same 0 (λ e. suc-zero key (sym e))),
      )
