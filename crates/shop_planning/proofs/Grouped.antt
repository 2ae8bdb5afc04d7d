-- Items that are alike, counted together: all of them are counted once.
use Rattle.std.proofs.Common.{◌≡◌, ◌∙◌, ℕ, ◌+◌, List, [], ◌∷◌, ◌++◌, Bool, true, false, refl, ap, sym, arith, append_assoc}
use Rattle.std.specs.Prelude.{◌||◌, if◌then◌else◌, sum_by}
use Rattle.std.specs.List.{list_any}
use Rattle.std.specs.Bool.{Decides}
use Rattle.std.proofs.lemmas.Bool.Decides.{Decides-like, same_from_decides}
use Rattle.std.proofs.lemmas.List.{append-nil}
use Rattle.std.proofs.lemmas.List.Folds.{list_any-append}
use Rattle.std.proofs.lemmas.List.Sums.{sum_by-cons}
use Rattle.shop_planning.specs.Stock.{firsts}

-- to be alike is an equivalence
pub record IsLikeness {A : Type 0} (alike : A → A → Bool) : Type 0 where
  pub itself : (x : A) → alike x x ≡ true
  pub back : (x y : A) → alike x y ≡ alike y x
  pub same : (x y z : A) → alike x y ≡ true → alike x z ≡ alike y z

-- those are alike whose keys are the same
pub like_keys : {A K : Type 0} (alike : A → A → Bool) (key : A → K) → ((x y : A) → Decides (alike x y) (key x ≡ key y)) → IsLikeness alike
like_keys alike key d =
    record {
      itself = λ x. (d x x).1 refl;
      back = λ x y. same_from_decides (alike x y) (alike y x) (d x y) (Decides-like _ (λ e. sym e) (λ e. sym e) (d y x));
      same = λ x y z is.
          let e : key x ≡ key y = (d x y).0 is in
          same_from_decides (alike x z) (alike y z) (d x z) (Decides-like _ (λ f. e ∙ f) (λ f. sym e ∙ f) (d y z));
    }

pub same_sums : {A : Type 0} (f g : A → ℕ) (xs : List A) → ((x : A) → f x ≡ g x) → sum_by f xs ≡ sum_by g xs
same_sums f g [] same = refl
same_sums f g (x ∷ xs) same = omega (arith, sum_by-cons f x xs, sum_by-cons g x xs, same x, same_sums f g xs same)

added_sums : {A : Type 0} (f g h : A → ℕ) (xs : List A) → ((x : A) → f x ≡ g x + h x) → sum_by f xs ≡ sum_by g xs + sum_by h xs
added_sums f g h [] same = refl
added_sums f g h (x ∷ xs) same = omega (arith, sum_by-cons f x xs, sum_by-cons g x xs, sum_by-cons h x xs, same x, added_sums f g h xs same)

or_false : (b : Bool) → (b || false) ≡ b
or_false true = refl
or_false false = refl

module _ {A : Type 0} (alike : A → A → Bool) (likeness : IsLikeness alike) where
  -- those alike to one are alike to the same
  any_same : (x y : A) (xs : List A) → alike x y ≡ true → list_any (alike x) xs ≡ list_any (alike y) xs
  any_same x y [] like = refl
  any_same x y (z ∷ zs) like = ap (λ b. b || list_any (alike x) zs) (likeness.same x y z like) ∙ ap (λ b. alike y z || b) (any_same x y zs like)

  any_pushed : (x p : A) (seen : List A) → list_any (alike x) (seen ++ p ∷ []) ≡ (list_any (alike x) seen || alike x p)
  any_pushed x p seen = list_any-append (alike x) seen (p ∷ []) ∙ ap (λ b. list_any (alike x) seen || b) (or_false (alike x p))

  any_itself : (x : A) (xs ys : List A) → list_any (alike x) (xs ++ x ∷ ys) ≡ true
  any_itself x [] ys = ap (λ b. b || list_any (alike x) ys) (likeness.itself x)
  any_itself x (z ∷ zs) ys = by (alike x z) (any_itself x zs ys)
    where
      by : (b : Bool) → list_any (alike x) (zs ++ x ∷ ys) ≡ true → (b || list_any (alike x) (zs ++ x ∷ ys)) ≡ true
      by true more = refl
      by false more = more

  module _ (w : A → ℕ) (all : List A) where
    -- what those that are alike to one weigh, and those alike to one of a list
    abbrev group : A → ℕ
    group f = sum_by (λ x. if alike f x then w x else 0) all

    abbrev among : List A → ℕ
    among seen = sum_by (λ x. if list_any (alike x) seen then w x else 0) all

    old : (p : A) (seen : List A) → list_any (alike p) seen ≡ true → among (seen ++ p ∷ []) ≡ among seen
    old p seen is = same_sums (λ x. if list_any (alike x) (seen ++ p ∷ []) then w x else 0) (λ x. if list_any (alike x) seen then w x else 0) all each
      where
        by : (x : A) (b c : Bool) → list_any (alike x) seen ≡ b → alike x p ≡ c → (if b || c then w x else 0) ≡ (if b then w x else 0)
        by x true c any one = refl
        by x false false any one = refl
        by x false true any one = let z : false ≡ true = sym any ∙ any_same x p seen one ∙ is in cc

        each : (x : A) → (if list_any (alike x) (seen ++ p ∷ []) then w x else 0) ≡ (if list_any (alike x) seen then w x else 0)
        each x = ap (λ b. if b then w x else 0) (any_pushed x p seen) ∙ by x (list_any (alike x) seen) (alike x p) refl refl

    new : (p : A) (seen : List A) → list_any (alike p) seen ≡ false → among (seen ++ p ∷ []) ≡ among seen + group p
    new p seen is =
        added_sums (λ x. if list_any (alike x) (seen ++ p ∷ []) then w x else 0) (λ x. if list_any (alike x) seen then w x else 0) (λ x. if alike p x then w x else 0) all each
      where
        by : (x : A) (b c : Bool) → list_any (alike x) seen ≡ b → alike x p ≡ c → (if b || c then w x else 0) ≡ (if b then w x else 0) + (if c then w x else 0)
        by x true true any one = let z : true ≡ false = sym any ∙ any_same x p seen one ∙ is in cc
        by x true false any one = omega arith
        by x false true any one = omega arith
        by x false false any one = refl

        each : (x : A) → (if list_any (alike x) (seen ++ p ∷ []) then w x else 0) ≡ (if list_any (alike x) seen then w x else 0) + (if alike p x then w x else 0)
        each x =
            ap (λ b. if b then w x else 0) (any_pushed x p seen) ∙ by x (list_any (alike x) seen) (alike x p) refl refl
            ∙ ap (λ b. (if list_any (alike x) seen then w x else 0) + (if b then w x else 0)) (likeness.back x p)

    -- the groups of the first ones, and those alike to what was seen
    grouped : (seen rest : List A) → sum_by group (firsts alike seen rest) + among seen ≡ among (seen ++ rest)
    grouped seen [] = omega (arith, ap among (append-nil seen))
    grouped seen (p ∷ ps) = by (list_any (alike p) seen) refl (grouped (seen ++ p ∷ []) ps ∙ ap among (append_assoc seen (p ∷ []) ps))
      where
        by : (b : Bool) → list_any (alike p) seen ≡ b → sum_by group (firsts alike (seen ++ p ∷ []) ps) + among (seen ++ p ∷ []) ≡ among (seen ++ p ∷ ps)
            → sum_by group (if b then firsts alike (seen ++ p ∷ []) ps else p ∷ firsts alike (seen ++ p ∷ []) ps) + among seen ≡ among (seen ++ p ∷ ps)
        by true is onward = omega (arith, old p seen is, onward)
        by false is onward = omega (arith, new p seen is, onward, sum_by-cons group p (firsts alike (seen ++ p ∷ []) ps))

    none_seen : among [] ≡ 0
    none_seen = zero all
      where
        zero : (xs : List A) → sum_by (λ x. if list_any (alike x) [] then w x else 0) xs ≡ 0
        zero [] = refl
        zero (x ∷ xs) = omega (arith, sum_by-cons (λ y. if list_any (alike y) [] then w y else 0) x xs, zero xs)

    all_seen : (prefix back : List A) → all ≡ prefix ++ back → sum_by (λ x. if list_any (alike x) all then w x else 0) back ≡ sum_by w back
    all_seen prefix [] is = refl
    all_seen prefix (x ∷ xs) is =
        let here : list_any (alike x) all ≡ true = ap (list_any (alike x)) is ∙ any_itself x prefix xs in
        omega (
          arith,
          sum_by-cons (λ y. if list_any (alike y) all then w y else 0) x xs,
          sum_by-cons w x xs,
          ap (λ b. if b then w x else 0) here,
          all_seen (prefix ++ x ∷ []) xs (is ∙ sym (append_assoc prefix (x ∷ []) xs)),
        )

    -- together the groups of the first ones are all
    pub whole : sum_by group (firsts alike [] all) ≡ sum_by w all
    whole = omega (arith, grouped [] all, none_seen, all_seen [] all refl)
