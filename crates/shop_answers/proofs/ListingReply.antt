-- The first rows of a list, and of the rows that a book lists.
use Rattle.std.proofs.Common.{◌≡◌, ℕ, zero, suc, ◌+◌, ◌<◌, ◌≤◌, ◌⊎◌, inl, inr, List, [], ◌∷◌, length, take, Bool, true, false, Option, Some, None, Bor, nat_lt, lt-ltb, refl, sym, ap, ◌∙◌, arith}
use Rattle.std.specs.Prelude.{MatchOption, unwrap_or}
use Rattle.std.specs.List.{slice_range}
use Rattle.std.proofs.lemmas.Bool.{ltb-false, ltb-true}
use Rattle.std.proofs.lemmas.List.{length-take-le, take_all}
use Rattle.shop_answers.specs.declared.listing.TheConstants.{MAX_LISTED}
use Rattle.shop_answers.specs.Listing.{are_more, first_reported}

module _ {T : Type 0} where
  take_taken : (n m : ℕ) (xs : List T) → n ≤ m → take n (take m xs) ≡ take n xs
  take_taken zero m xs h = refl
  take_taken (suc n) zero xs h = absurd (omega (arith, h))
  take_taken (suc n) (suc m) [] h = refl
  take_taken (suc n) (suc m) (x ∷ xs) h = ap (λ l. x ∷ l) (take_taken n m xs (omega (arith, h)))

  more_taken : (n : ℕ) (xs : List T) → nat_lt n (length (take (suc n) xs)) ≡ nat_lt n (length xs)
  more_taken n xs = by (nat_lt n (length xs)) refl
    where
      by : (b : Bool) → nat_lt n (length xs) ≡ b → nat_lt n (length (take (suc n) xs)) ≡ nat_lt n (length xs)
      by true e = ap (nat_lt n) (length-take-le (suc n) xs (omega (arith, ltb-true n (length xs) e))) ∙ lt-ltb n (suc n) (omega arith) ∙ sym e
      by false e = ap (λ l. nat_lt n (length l)) (take_all (suc n) xs (omega (arith, ltb-false n (length xs) e)))

  -- rows of which one more was listed than are reported
  pub first_listed : (rows all : List T) → rows ≡ take (MAX_LISTED + 1) all → first_reported rows ≡ first_reported all
  first_listed rows all is = ap first_reported is ∙ take_taken MAX_LISTED (MAX_LISTED + 1) all (omega arith)

  pub more_listed : (rows all : List T) → rows ≡ take (MAX_LISTED + 1) all → are_more rows ≡ are_more all
  more_listed rows all is = ap are_more is ∙ more_taken MAX_LISTED all

  -- a list without more is reported as a whole
  pub all_reported : (rows : List T) → length rows ≤ MAX_LISTED → rows ≡ first_reported rows
  all_reported rows h = sym (take_all MAX_LISTED rows h)

  -- the first rows where there are so many, and else all
  pub reported_by : (rows : Bor (List T)) (found : Option (Bor (List T)))
      → MatchOption found ((MAX_LISTED < 0) ⊎ (length rows.now < MAX_LISTED)) (λ x. (0 ≤ MAX_LISTED) × (MAX_LISTED ≤ length rows.now) × (x.now ≡ slice_range rows.now 0 MAX_LISTED) × (length x.now + 0 ≡ MAX_LISTED))
      → (unwrap_or found rows).now ≡ first_reported rows.now
  reported_by rows None (inl h) = absurd (omega (arith, h))
  reported_by rows None (inr h) = all_reported rows.now (omega (arith, h))
  reported_by rows (Some x) h = h.2
