-- The first items of a list that are alike to none before them, one item after another.
use Rattle.std.proofs.Common.{◌≡◌, ◌∙◌, ℕ, ◌+◌, ◌<◌, ◌≤◌, List, [], ◌∷◌, ◌++◌, Bool, true, false, ap, drop, get_or, length, map, sym, take, arith, append_assoc}
use Rattle.std.specs.Prelude.{All, if◌then◌else◌}
use Rattle.std.specs.List.{list_any}
use Rattle.std.proofs.lemmas.List.{drop_more, take_more}
use Rattle.std.proofs.lemmas.List.Elements.{All-cons, All-head, All-nil, All-tail}
use Rattle.shop_planning.specs.Stock.{firsts}

module _ {A B : Type 0} (alike : A → A → Bool) (f : A → B) (xs : List A) (i : ℕ) (x : A) (within : i < length xs) (is : x ≡ get_or xs i x) where
  -- what is still to come of the first items, from the one at k on
  abbrev rest : ℕ → List B
  rest k = map f (firsts alike (take k xs) (drop k xs))

  here : drop i xs ≡ x ∷ drop (i + 1) xs
  here = drop_more xs i x within ∙ ap (λ y. y ∷ drop (i + 1) xs) (sym is)

  after : take (i + 1) xs ≡ take i xs ++ x ∷ []
  after = take_more xs i x within ∙ ap (λ y. take i xs ++ y ∷ []) (sym is)

  by_test : (b : Bool) → list_any (alike x) (take i xs) ≡ b
      → rest i ≡ map f (if b then firsts alike (take i xs ++ x ∷ []) (drop (i + 1) xs) else x ∷ firsts alike (take i xs ++ x ∷ []) (drop (i + 1) xs))
  by_test b test =
      ap (λ l. map f (firsts alike (take i xs) l)) here
      ∙ ap (λ t. map f (if t then firsts alike (take i xs ++ x ∷ []) (drop (i + 1) xs) else x ∷ firsts alike (take i xs ++ x ∷ []) (drop (i + 1) xs))) test

  next : map f (firsts alike (take i xs ++ x ∷ []) (drop (i + 1) xs)) ≡ rest (i + 1)
  next = ap (λ l. map f (firsts alike l (drop (i + 1) xs))) (sym after)

  -- one that is alike to an earlier one is passed over
  pub passed : (list all : List B) → list_any (alike x) (take i xs) ≡ true → list ++ rest i ≡ all → list ++ rest (i + 1) ≡ all
  passed list all test so = ap (λ l. list ++ l) (sym (by_test true test ∙ next)) ∙ so

  -- and another one is kept
  pub kept : (list all : List B) → list_any (alike x) (take i xs) ≡ false → list ++ rest i ≡ all → (list ++ f x ∷ []) ++ rest (i + 1) ≡ all
  kept list all test so =
      append_assoc list (f x ∷ []) (rest (i + 1)) ∙ ap (λ l. list ++ l) (sym (by_test false test ∙ ap (λ l. f x ∷ l) next)) ∙ so

-- no more than there are
pub few_firsts : {A : Type 0} (alike : A → A → Bool) (seen xs : List A) → length (firsts alike seen xs) ≤ length xs
few_firsts alike seen [] = omega arith
few_firsts alike seen (x ∷ xs) = by (list_any (alike x) seen) (few_firsts alike (seen ++ x ∷ []) xs)
  where
    by : (b : Bool) → length (firsts alike (seen ++ x ∷ []) xs) ≤ length xs
        → length (if b then firsts alike (seen ++ x ∷ []) xs else x ∷ firsts alike (seen ++ x ∷ []) xs) ≤ length (x ∷ xs)
    by true few = omega (arith, few)
    by false few = omega (arith, few)

-- what holds of all holds of the first ones
pub all_firsts : {A : Type 0} (alike : A → A → Bool) (P : A → Type 0) (seen xs : List A) → All P xs → All P (firsts alike seen xs)
all_firsts alike P seen [] all = All-nil P
all_firsts alike P seen (x ∷ xs) all = by (list_any (alike x) seen) (all_firsts alike P (seen ++ x ∷ []) xs (All-tail P x xs all))
  where
    by : (b : Bool) → All P (firsts alike (seen ++ x ∷ []) xs) → All P (if b then firsts alike (seen ++ x ∷ []) xs else x ∷ firsts alike (seen ++ x ∷ []) xs)
    by true more = more
    by false more = All-cons P x (firsts alike (seen ++ x ∷ []) xs) (All-head P x xs all) more
