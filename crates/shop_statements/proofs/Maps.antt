-- A map's entries after `insert`, and those at a key.
use Rattle.std.proofs.Common.{◌≡◌, Bool, true, false, cond, not, ◌&&◌, List, [], ◌∷◌, filter, Option, Some, None, refl, sym, ap, subst, ◌∙◌, IsPermutation, T, true≢false}
use Rattle.std.specs.declared.cmp.Ordering.{Ordering}
use Rattle.std.specs.declared.cmp.Ordering.TheVariants.{Less, Equal, Greater}
use Rattle.std.specs.Ordering.{eq_by_cmp, is_eq, is_lt, ordering_reverse}
use Rattle.std.specs.List.{AllByRecursion}
use Rattle.std.specs.Cmp.{IsTotalOrder, tied_back, tied_itself}
use Rattle.sqlite_trees.specs.Tree.{IsAscending}
use Rattle.sqlite_trees.proofs.ListLemmas.{all-permutation, IsPermutation-filter}
use Rattle.sqlite.proofs.Callers.{one_permutation}
use Rattle.std.proofs.Common.{length, arith}
use Rattle.std.specs.FinMap.{FinMap, IsAntisymmetric, entries, entries_sorted, get, get-entries, insert, entries-insert, get-insert, remove, get-remove, from_sorted, entries-from_sorted, get-from_sorted, same_map, find, is_sorted}
use Rattle.std.specs.FinMap.Entries.{put, below_all, by_order, find-where_key}
use Rattle.std.proofs.lemmas.List.Sorted.{IsPermutation-refl, IsPermutation-trans, IsPermutation-cons, IsPermutation-sym, IsPermutation-middle, length_permutation}

-- the entry at a key, as a list
abbrev pub entry_at : {K X : Type 0} (R : K → K → Ordering) → FinMap R X → K → List (K × X)
entry_at R m k = filter (λ e. eq_by_cmp R e.0 k) (entries m)

eq_is : (r : Ordering) → is_eq r ≡ true → r ≡ Equal
eq_is Less h = absurd (true≢false (sym h))
eq_is Equal h = refl
eq_is Greater h = absurd (true≢false (sym h))

pub lt_is : (r : Ordering) → T (is_lt r) → r ≡ Less
lt_is Less h = refl
lt_is Equal h = absurd h
lt_is Greater h = absurd h

pub both : (a b : Bool) → T (a && b) → T a × T b
both true b h = (tt, h)
both false b h = absurd h

joined : (a b : Bool) → T a → T b → T (a && b)
joined true b p q = q
joined false b p q = p

flip : {X : Type 0} (x y : X) (xs : List X) → IsPermutation (x ∷ y ∷ xs) (y ∷ x ∷ xs)
flip x y xs = IsPermutation-middle (x ∷ []) y xs

module _ {K : Type 0} (X : Type 0) {R : K → K → Ordering} (o : IsTotalOrder R) (same : IsAntisymmetric R) where
  abbrev at : K → List (K × X) → List (K × X)
  at k es = filter (λ e. eq_by_cmp R e.0 k) es

  abbrev pub listed : K → Option X → List (K × X)
  listed k None = []
  listed k (Some v) = (k, v) ∷ []

  -- below each key there is none
  none_above : (k x : K) (es : List (K × X)) → R x k ≡ Equal → T (below_all R x es) → at k es ≡ []
  none_above k x [] tie h = refl
  none_above k x (e ∷ es) tie h =
      let parts = both _ _ h in
      let less : R k e.0 ≡ Less = sym (o.congr x k e.0 tie) ∙ lt_is _ parts.0 in
      let other : eq_by_cmp R e.0 k ≡ false = ap is_eq (o.antisymm e.0 k ∙ ap ordering_reverse less) in
      rw other (none_above k x es tie parts.1)

  pub none_found : (k x : K) (es : List (K × X)) → R x k ≡ Equal → T (below_all R x es) → find R k es ≡ None
  none_found k x [] tie h = refl
  none_found k x (e ∷ es) tie h =
      let parts = both _ _ h in
      let less : R k e.0 ≡ Less = sym (o.congr x k e.0 tie) ∙ lt_is _ parts.0 in
      let other : eq_by_cmp R k e.0 ≡ false = ap is_eq less in
      rw other (none_found k x es tie parts.1)

  turn : (a b : K) → eq_by_cmp R a b ≡ eq_by_cmp R b a
  turn a b = elim (R b a) as (λ r. R b a ≡ r → is_eq (R a b) ≡ is_eq r) [
    | Less ↦ λ e. ap is_eq (o.antisymm a b ∙ ap ordering_reverse e)
    | Equal ↦ λ e. ap is_eq (tied_back o b a e)
    | Greater ↦ λ e. ap is_eq (o.antisymm a b ∙ ap ordering_reverse e)
  ] refl

  at_is : (k : K) (es : List (K × X)) → T (is_sorted R es) → at k es ≡ listed k (find R k es)
  at_is k [] up = refl
  at_is k (e ∷ es) up =
      let parts = both _ _ up in
      elim (eq_by_cmp R e.0 k) as (λ b. eq_by_cmp R e.0 k ≡ b → cond b (e ∷ at k es) (at k es) ≡ listed k (cond (eq_by_cmp R k e.0) (Some e.1) (find R k es))) [
        | true ↦ λ is.
            let tie = eq_is _ is in
            let key : e.0 ≡ k = same e.0 k tie in
            rw (sym (turn e.0 k) ∙ is, none_above k e.0 es tie parts.0) (λ i. (key i, e.1) ∷ [])
        | false ↦ λ is. rw (sym (turn e.0 k) ∙ is) (at_is k es parts.1)
      ] refl

  pub entry_at_is : (m : FinMap R X) (k : K) → entry_at R m k ≡ listed k (get m k)
  entry_at_is m k = at_is k (entries m) (entries_sorted m) ∙ ap (listed k) (sym (get-entries m k))

  put_new : (k : K) (v : X) (es : List (K × X)) → find R k es ≡ None → IsPermutation ((k, v) ∷ es) (put R k v es)
  put_new k v [] none = IsPermutation-refl _
  put_new k v (e ∷ es) none =
      elim (R k e.0) as (λ r. cond (is_eq r) (Some e.1) (find R k es) ≡ None → IsPermutation ((k, v) ∷ e ∷ es) (by_order r ((k, v) ∷ e ∷ es) ((e.0, v) ∷ es) (e ∷ put R k v es))) [
        | Less ↦ λ n. IsPermutation-refl _
        | Equal ↦ λ n. absurd (cc)
        | Greater ↦ λ n. IsPermutation-trans _ _ _ (flip (k, v) e es) (IsPermutation-cons e _ _ (put_new k v es n))
      ] none

  -- the others than the entry at a key
  abbrev pub others : K → List (K × X) → List (K × X)
  others k es = filter (λ e. not (eq_by_cmp R e.0 k)) es

  all_others : (k x : K) (es : List (K × X)) → R x k ≡ Equal → T (below_all R x es) → others k es ≡ es
  all_others k x [] tie h = refl
  all_others k x (e ∷ es) tie h =
      let parts = both _ _ h in
      let less : R k e.0 ≡ Less = sym (o.congr x k e.0 tie) ∙ lt_is _ parts.0 in
      let other : eq_by_cmp R e.0 k ≡ false = ap is_eq (o.antisymm e.0 k ∙ ap ordering_reverse less) in
      rw (other, all_others k x es tie parts.1)

  some_none : (w : X) → Some w ≡ None → ⊥
  some_none w e = absurd (cc)

  below_none : (k : K) (e : K × X) (es : List (K × X)) → R k e.0 ≡ Less → T (below_all R e.0 es) → find R k es ≡ None
  below_none k e [] r h = refl
  below_none k e (f ∷ es) r h =
      let parts = both _ _ h in
      let less : R k f.0 ≡ Less = o.trans k e.0 f.0 r (lt_is _ parts.0) in
      let other : eq_by_cmp R k f.0 ≡ false = ap is_eq less in
      rw other (below_none k e es r parts.1)

  put_over : (k : K) (v w : X) (es : List (K × X)) → T (is_sorted R es) → find R k es ≡ Some w → IsPermutation ((k, v) ∷ others k es) (put R k v es)
  put_over k v w [] up is = absurd (some_none w (sym is))
  put_over k v w (e ∷ es) up is =
      let parts = both _ _ up in
      elim (R k e.0) as (λ r. R k e.0 ≡ r → cond (is_eq r) (Some e.1) (find R k es) ≡ Some w
      → IsPermutation ((k, v) ∷ cond (not (eq_by_cmp R e.0 k)) (e ∷ others k es) (others k es)) (by_order r ((k, v) ∷ e ∷ es) ((e.0, v) ∷ es) (e ∷ put R k v es))) [
        | Less ↦ λ r n. absurd (some_none w (sym n ∙ below_none k e es r parts.0))
        | Equal ↦ λ r n.
            let tie = tied_back o k e.0 r in
            let here : eq_by_cmp R e.0 k ≡ true = ap is_eq tie in
            let key : k ≡ e.0 = same k e.0 r in
            rw (here, all_others k e.0 es tie parts.0) (subst (λ j. IsPermutation ((k, v) ∷ es) ((j, v) ∷ es)) key (IsPermutation-refl _))
        | Greater ↦ λ r n.
            let other : eq_by_cmp R e.0 k ≡ false = turn e.0 k ∙ ap is_eq r in
            rw other (IsPermutation-trans _ _ _ (flip (k, v) e (others k es)) (IsPermutation-cons e _ _ (put_over k v w es parts.1 n)))
      ] refl is

  pub insert_new : (m : FinMap R X) (k : K) (v : X) → get m k ≡ None → IsPermutation ((k, v) ∷ entries m) (entries (insert m k v))
  insert_new m k v none = rw (entries-insert o m k v) (put_new k v (entries m) (sym (get-entries m k) ∙ none))

  pub insert_over : (m : FinMap R X) (k : K) (v w : X) → get m k ≡ Some w → IsPermutation ((k, v) ∷ others k (entries m)) (entries (insert m k v))
  insert_over m k v w is = rw (entries-insert o m k v) (put_over k v w (entries m) (entries_sorted m) (sym (get-entries m k) ∙ is))

  -- ---- the one order in which the keys do not fall

  no_fall : (a b : K) → R a b ≡ Less → is_lt (R b a) ≡ false
  no_fall a b e = ap is_lt (o.antisymm b a ∙ ap ordering_reverse e)

  first_lowest : (x : K × X) (es : List (K × X)) → T (below_all R x.0 es) → AllByRecursion (λ e. is_lt (R e.0 x.0) ≡ false) es
  first_lowest x [] h = tt
  first_lowest x (e ∷ es) h = let parts = both _ _ h in (no_fall x.0 e.0 (lt_is _ parts.0), first_lowest x es parts.1)

  itself : (x : K) → is_lt (R x x) ≡ false
  itself x = ap is_lt (tied_itself o x)

  level : (r : Ordering) → is_lt r ≡ false → is_lt (ordering_reverse r) ≡ false → r ≡ Equal
  level Less p q = absurd (true≢false p)
  level Equal p q = refl
  level Greater p q = absurd (true≢false q)

  pub left_out : (k : K) (es : List (K × X)) → at k es ≡ [] → others k es ≡ es
  left_out k [] none = refl
  left_out k (e ∷ es) none =
      elim (eq_by_cmp R e.0 k) as (λ b. cond b (e ∷ at k es) (at k es) ≡ [] → cond (not b) (e ∷ others k es) (others k es) ≡ e ∷ es)
      [ true ↦ λ h. absurd (cc) | false ↦ λ h. ap (λ l. e ∷ l) (left_out k es h) ] none

  -- no key is below an earlier one
  abbrev pub Rises : List (K × X) → Type 0
  Rises = IsAscending (λ a b. is_lt (R b.0 a.0) ≡ false)

  pub one_order : (xs ys : List (K × X)) → T (is_sorted R xs) → Rises ys → IsPermutation xs ys → xs ≡ ys
  one_order [] ys up rise same = sym (none_left ys (length_permutation [] ys same))
    where
      none_left : (zs : List (K × X)) → length zs ≡ 0 → zs ≡ []
      none_left [] h = refl
      none_left (z ∷ zs) h = absurd (omega arith)
  one_order (x ∷ xs) [] up rise same = absurd (let h = length_permutation (x ∷ xs) [] same in omega (arith, h))
  one_order (x ∷ xs) (y ∷ ys) up rise same =
      let parts = both _ _ up in
      let low = all-permutation (λ e. is_lt (R e.0 x.0) ≡ false) (x ∷ xs) (y ∷ ys) same (itself x.0, first_lowest x xs parts.0) in
      let high = all-permutation (λ e. is_lt (R e.0 y.0) ≡ false) (y ∷ ys) (x ∷ xs) (IsPermutation-sym _ _ same) (itself y.0, rise.0) in
      let tie : R y.0 x.0 ≡ Equal = level (R y.0 x.0) low.0 (subst (λ r. is_lt r ≡ false) (o.antisymm x.0 y.0) high.0) in
      let here : eq_by_cmp R y.0 x.0 ≡ true = ap is_eq tie in
      let self : eq_by_cmp R x.0 x.0 ≡ true = ap is_eq (tied_itself o x.0) in
      let mine : at x.0 (x ∷ xs) ≡ x ∷ [] = rw (self, none_above x.0 x.0 xs (tied_itself o x.0) parts.0) refl in
      let yours : at x.0 (y ∷ ys) ≡ y ∷ at x.0 ys = rw here refl in
      let only : y ∷ at x.0 ys ≡ x ∷ [] = sym yours ∙ one_permutation x _ (subst (λ l. IsPermutation l (at x.0 (y ∷ ys))) mine (IsPermutation-filter (λ e. eq_by_cmp R e.0 x.0) _ _ same)) in
      let head : y ≡ x = cc in
      let none : at x.0 ys ≡ [] = cc in
      let rest_x : others x.0 (x ∷ xs) ≡ xs = rw self (all_others x.0 x.0 xs (tied_itself o x.0) parts.0) in
      let rest_y : others x.0 (y ∷ ys) ≡ ys = rw here (left_out x.0 ys none) in
      let tail : IsPermutation xs ys = subst (IsPermutation xs) rest_y (subst (λ l. IsPermutation l (others x.0 (y ∷ ys))) rest_x (IsPermutation-filter (λ e. not (eq_by_cmp R e.0 x.0)) _ _ same)) in
      λ i. sym head i ∷ one_order xs ys parts.1 rise.1 tail i

  below_filter : (x : K) (p : K × X → Bool) (es : List (K × X)) → T (below_all R x es) → T (below_all R x (filter p es))
  below_filter x p [] h = tt
  below_filter x p (e ∷ es) h =
      let parts = both _ _ h in
      elim (p e) as (λ b. T (below_all R x (cond b (e ∷ filter p es) (filter p es)))) [
        | true ↦ joined (is_lt (R x e.0)) _ parts.0 (below_filter x p es parts.1)
        | false ↦ below_filter x p es parts.1
      ]

  pub sorted_filter : (p : K × X → Bool) (es : List (K × X)) → T (is_sorted R es) → T (is_sorted R (filter p es))
  sorted_filter p [] h = tt
  sorted_filter p (e ∷ es) h =
      let parts = both _ _ h in
      elim (p e) as (λ b. T (is_sorted R (cond b (e ∷ filter p es) (filter p es)))) [
        | true ↦ joined (below_all R e.0 (filter p es)) _ (below_filter e.0 p es parts.0) (sorted_filter p es parts.1)
        | false ↦ sorted_filter p es parts.1
      ]

  -- ---- without a key

  turned : (b : Bool) (x y : Option X) → cond (not b) x y ≡ cond b y x
  turned true x y = refl
  turned false x y = refl

  -- the others are what is left without the key
  pub removed : (m : FinMap R X) (k : K) → entries (remove m k) ≡ others k (entries m)
  removed m k =
      let sorted : T (is_sorted R (others k (entries m))) = sorted_filter (λ e. not (eq_by_cmp R e.0 k)) (entries m) (entries_sorted m) in
      let whole : remove m k ≡ from_sorted {R = R} (others k (entries m)) = same_map o same (remove m k) (from_sorted (others k (entries m))) (λ q.
      get-remove o m k q ∙ ap (cond (eq_by_cmp R q k) None) (get-entries m q) ∙ sym (turned (eq_by_cmp R q k) (find R q (entries m)) None)
      ∙ sym (find-where_key R (λ x. not (eq_by_cmp R x k)) q (λ x tie. ap (λ y. not (eq_by_cmp R y k)) (sym (same q x tie))) (entries m)) ∙ sym (get-from_sorted R (others k (entries m)) q sorted)) in
      ap entries whole ∙ entries-from_sorted R (others k (entries m)) sorted

  -- nothing is under it then
  pub get_removed : (m : FinMap R X) (k : K) → get (remove m k) k ≡ None
  get_removed m k = get-remove o m k k ∙ ap (λ r. cond (is_eq r) None (get m k)) (tied_itself o k)

  -- and what is put there then is put over what was there
  pub insert_removed : (m : FinMap R X) (k : K) (v : X) → insert (remove m k) k v ≡ insert m k v
  insert_removed m k v = same_map o same (insert (remove m k) k v) (insert m k v) (λ q.
      get-insert o (remove m k) k v q ∙ ap (cond (eq_by_cmp R q k) (Some v)) (get-remove o m k q) ∙ shadowed (eq_by_cmp R q k) (get m q) ∙ sym (get-insert o m k v q))
    where
      shadowed : (b : Bool) (x : Option X) → cond b (Some v) (cond b None x) ≡ cond b (Some v) x
      shadowed true x = refl
      shadowed false x = refl
