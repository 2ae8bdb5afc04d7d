-- Rows that are made of others with the same keys, and tests that rows pass.
use Rattle.std.proofs.Common.{◌≡◌, ℕ, Bool, true, false, List, [], ◌∷◌, ◌++◌, take, drop, map, refl, sym, ap, ◌∙◌}
use Rattle.std.specs.Prelude.{Some, ◌&&◌, cond}
use Rattle.std.specs.declared.cmp.Ordering.{Ordering}
use Rattle.std.specs.declared.cmp.Ordering.TheVariants.{Less, Equal, Greater}
use Rattle.std.specs.Ordering.{is_eq, is_lt}
use Rattle.std.specs.FinMap.{find, is_sorted, put}
use Rattle.std.specs.FinMap.Entries.{below_all, by_order}
use Rattle.std.specs.List.{insert_slice, list_all}
use Rattle.std.specs.Option.{option_map}
use Rattle.std.proofs.lemmas.List.{drop-map, map-append, take-append-drop, take-map}
use Rattle.std.proofs.lemmas.List.Folds.{list_all-append}
use Rattle.shop_rows.specs.Rows.{entries_of, put_each, rise, row_at, ArePut, IsPut}
use Rattle.shop_rows.proofs.Summed.{both}

-- ---- rows made of others

module _ {X Y K : Type 0} (own_of : X → K) (key_of : Y → K) (cmp : K → K → Ordering) (f : X → Y) (same : (x : X) → key_of (f x) ≡ own_of x) where
  abbrev value : K × X → K × Y
  value e = (e.0, f e.1)

  entries-map : (xs : List X) → entries_of key_of cmp (map f xs) ≡ map value (entries_of own_of cmp xs)
  entries-map [] = refl
  entries-map (x ∷ xs) = λ i. (same x i, f x) ∷ entries-map xs i

  pub keys-map : (xs : List X) → map key_of (map f xs) ≡ map own_of xs
  keys-map [] = refl
  keys-map (x ∷ xs) = λ i. same x i ∷ keys-map xs i

  below : (q : K) (es : List (K × X)) → below_all cmp q (map value es) ≡ below_all cmp q es
  below q [] = refl
  below q (e ∷ es) = ap (λ b. is_lt (cmp q e.0) && b) (below q es)

  sorted : (es : List (K × X)) → is_sorted cmp (map value es) ≡ is_sorted cmp es
  sorted [] = refl
  sorted (e ∷ es) = λ i. below e.0 es i && sorted es i

  pub rise-map : (xs : List X) → rise key_of cmp (map f xs) ≡ rise own_of cmp xs
  rise-map xs = ap (is_sorted cmp) (entries-map xs) ∙ sorted (entries_of own_of cmp xs)

  found : (q : K) (es : List (K × X)) → find cmp q (map value es) ≡ option_map f (find cmp q es)
  found q [] = refl
  found q (e ∷ es) =
      elim (is_eq (cmp q e.0)) as (λ b. cond b (Some (f e.1)) (find cmp q (map value es)) ≡ option_map f (cond b (Some e.1) (find cmp q es))) [ true ↦ refl | false ↦ found q es ]

  pub row_at-map : (q : K) (xs : List X) → row_at key_of cmp q (map f xs) ≡ option_map f (row_at own_of cmp q xs)
  row_at-map q xs = ap (find cmp q) (entries-map xs) ∙ found q (entries_of own_of cmp xs)

  placed : (k : K) (x : X) (es : List (K × X)) → put cmp k (f x) (map value es) ≡ map value (put cmp k x es)
  placed k x [] = refl
  placed k x (e ∷ es) =
      elim (cmp k e.0) as (λ r. by_order r ((k, f x) ∷ map value (e ∷ es)) ((e.0, f x) ∷ map value es) (value e ∷ put cmp k (f x) (map value es)) ≡ map value (by_order r ((k, x) ∷ e ∷ es) ((e.0, x) ∷ es) (e ∷ put cmp k x es))) [
        | Less ↦ refl
        | Equal ↦ refl
        | Greater ↦ ap (λ fs. value e ∷ fs) (placed k x es)
      ]

  pub put-map : (x : X) (old new : List X) → IsPut own_of cmp x old new → IsPut key_of cmp (f x) (map f old) (map f new)
  put-map x old new is =
      entries-map new ∙ ap (map value) is ∙ sym (placed (own_of x) x (entries_of own_of cmp old)) ∙ (λ i. put cmp (sym (same x) i) (f x) (sym (entries-map old) i))

  each : (rows : List X) (es : List (K × X)) → put_each key_of cmp (map f rows) (map value es) ≡ map value (put_each own_of cmp rows es)
  each [] es = refl
  each (x ∷ rows) es = ap (put_each key_of cmp (map f rows)) ((λ i. put cmp (same x i) (f x) (map value es)) ∙ placed (own_of x) x es) ∙ each rows (put cmp (own_of x) x es)

  pub all_put-map : (rows old new : List X) → ArePut own_of cmp rows old new → ArePut key_of cmp (map f rows) (map f old) (map f new)
  all_put-map rows old new are =
      entries-map new ∙ ap (map value) are ∙ sym (each rows (entries_of own_of cmp old)) ∙ ap (put_each key_of cmp (map f rows)) (sym (entries-map old))

pub inserted-map : {X Y : Type 0} (f : X → Y) (xs added : List X) (i : ℕ) → map f (insert_slice xs i added) ≡ insert_slice (map f xs) i (map f added)
inserted-map f xs added i =
    map-append f (take i xs ++ added) (drop i xs) ∙ ap (λ ys. ys ++ map f (drop i xs)) (map-append f (take i xs) added)
    ∙ (λ j. (sym (take-map f i xs) j ++ map f added) ++ sym (drop-map f i xs) j)

-- ---- tests that rows pass

pub seconds : {K X : Type 0} (key : X → K) (cmp : K → K → Ordering) (xs : List X) → map (λ (e : K × X). e.1) (entries_of key cmp xs) ≡ xs
seconds key cmp [] = refl
seconds key cmp (x ∷ xs) = ap (λ ys. x ∷ ys) (seconds key cmp xs)

module _ {X : Type 0} (p : X → Bool) where
  module _ {K : Type 0} (key : X → K) (cmp : K → K → Ordering) where
    abbrev rows_in : List (K × X) → List X
    rows_in es = map (λ (e : K × X). e.1) es

    entries-pass : (q : K) (row : X) (es : List (K × X)) → p row ≡ true → list_all p (rows_in es) ≡ true → list_all p (rows_in (put cmp q row es)) ≡ true
    entries-pass q row [] own old = ap (λ b. b && true) own
    entries-pass q row (e ∷ es) own old =
        let t = both (p e.1) (list_all p (rows_in es)) old in
        elim (cmp q e.0) as (λ r. list_all p (rows_in (by_order r ((q, row) ∷ e ∷ es) ((e.0, row) ∷ es) (e ∷ put cmp q row es))) ≡ true) [
          | Less ↦ ap (λ b. b && list_all p (rows_in (e ∷ es))) own ∙ old
          | Equal ↦ ap (λ b. b && list_all p (rows_in es)) own ∙ t.1
          | Greater ↦ ap (λ b. b && list_all p (rows_in (put cmp q row es))) t.0 ∙ entries-pass q row es own t.1
        ]

    -- where a row that passes is put, all pass
    pub all-put : (row : X) (old new : List X) → p row ≡ true → list_all p old ≡ true → IsPut key cmp row old new → list_all p new ≡ true
    all-put row old new own all is_put =
        ap (list_all p) (sym (seconds key cmp new) ∙ ap rows_in is_put) ∙ entries-pass (key row) row (entries_of key cmp old) own (ap (list_all p) (seconds key cmp old) ∙ all)

    each-pass : (rows : List X) (es : List (K × X)) → list_all p rows ≡ true → list_all p (rows_in es) ≡ true → list_all p (rows_in (put_each key cmp rows es)) ≡ true
    each-pass [] es own old = old
    each-pass (row ∷ rows) es own old =
        let t = both (p row) (list_all p rows) own in each-pass rows (put cmp (key row) row es) t.1 (entries-pass (key row) row es t.0 old)

    -- so do they where rows that pass are put one after another
    pub all-put-each : (rows old new : List X) → list_all p rows ≡ true → list_all p old ≡ true → ArePut key cmp rows old new → list_all p new ≡ true
    all-put-each rows old new own all are_put =
        ap (list_all p) (sym (seconds key cmp new) ∙ ap rows_in are_put) ∙ each-pass rows (entries_of key cmp old) own (ap (list_all p) (seconds key cmp old) ∙ all)

    -- and a row that is found passes
    pub found-passes : (q : K) (row : X) (rows : List X) → list_all p rows ≡ true → row_at key cmp q rows ≡ Some row → p row ≡ true
    found-passes q row [] all e = cc
    found-passes q row (x ∷ xs) all e =
        let t = both (p x) (list_all p xs) all in
        by_tie t.0 (found-passes q row xs t.1) (is_eq (cmp q (key x))) e
      where
        by_tie : p x ≡ true → (row_at key cmp q xs ≡ Some row → p row ≡ true) → (b : Bool) → cond b (Some x) (row_at key cmp q xs) ≡ Some row → p row ≡ true
        by_tie own later true is = let same : x ≡ row = cc in ap p (sym same) ∙ own
        by_tie own later false is = later is

  pub all-inserted : (old added : List X) (i : ℕ) → list_all p old ≡ true → list_all p added ≡ true → list_all p (insert_slice old i added) ≡ true
  all-inserted old added i all more =
      let t = both (list_all p (take i old)) (list_all p (drop i old)) (sym (list_all-append p (take i old) (drop i old)) ∙ ap (list_all p) (take-append-drop i old) ∙ all) in
      list_all-append p (take i old ++ added) (drop i old) ∙ ap (λ b. b && list_all p (drop i old)) (list_all-append p (take i old) added)
      ∙ ap (λ b. (b && list_all p added) && list_all p (drop i old)) t.0 ∙ ap (λ b. b && list_all p (drop i old)) more ∙ t.1
