-- Where a row stands among rows that rise by their keys, and what it is to put one there.
use Rattle.std.proofs.Common.{◌≡◌, inl, inr, ℕ, zero, suc, ◌+◌, ◌-◌, ◌<◌, ◌≤◌, Bool, true, false, List, [], ◌∷◌, ◌++◌, length, map, take, drop, get_or, refl, sym, ap, subst, ◌∙◌, arith}
use Rattle.std.specs.Prelude.{All, IfNone, Option, Some, None, T, cond, not, is_some, ◌&&◌}
use Rattle.std.specs.declared.cmp.Ordering.{Ordering}
use Rattle.std.specs.declared.cmp.Ordering.TheVariants.{Less, Equal, Greater}
use Rattle.std.specs.Ordering.{eq_by_cmp, is_eq, is_lt, ordering_index, ordering_reverse}
use Rattle.std.specs.Cmp.{IsTotalOrder, alike_right, eq_by_cmp_equiv}
use Rattle.std.specs.List.{insert, insert_slice, slice_get}
use Rattle.std.specs.List.Sorted.{IsPartitionPoint, IsNonDecreasingBy}
use Rattle.std.specs.FinMap.{IsAntisymmetric, find, is_sorted, put}
use Rattle.std.specs.FinMap.Entries.{below_all, by_order, find-put, find-where_key, is_sorted-put, is_sorted-where_key, where_key}
use Rattle.std.proofs.Math.ListN.{set}
use Rattle.std.proofs.Math.Seq.{drop-cons}
use Rattle.std.proofs.lemmas.Bool.{cases_lt}
use Rattle.std.specs.Option.{option_map}
use Rattle.std.proofs.lemmas.Option.{get_or_from_slice_get, slice_get-map}
use Rattle.std.proofs.lemmas.List.Elements.{filter-append}
use Rattle.std.proofs.lemmas.List.{append_assoc, get_or_default, get_or-drop, get_or-take, length-drop, length-take-le, set_split, map-append, take-append-drop}
use Rattle.shop_records.proofs.Sums.{first, second, less}
use Rattle.shop_rows.specs.Rows.{entry_of, entries_of, rise, row_at, put_each, IsPut, IsRun, SetsRow, IsTakenOut, ArePut}

pub lesser : (r : Ordering) → r ≡ Less → T (is_lt r)
lesser Less e = tt
lesser Equal e = absurd (cc)
lesser Greater e = absurd (cc)

pub message_id_of : (a b : Bool) → T a → T b → T (a && b)
message_id_of true b p q = q
message_id_of false b p q = absurd p

module _ {X K : Type 0} (key_of : X → K) (cmp : K → K → Ordering) (o : IsTotalOrder cmp) (exact : IsAntisymmetric cmp) where
  abbrev all : (X → Type 0) → List X → Type 0
  all P [] = Unit {0}
  all P (x ∷ xs) = P x × all P xs

  -- ---- after what is before, and before what is after

  find_past : (key : K) (prefix rest : List X) → all (λ x. cmp key (key_of x) ≡ Greater) prefix → row_at key_of cmp key (prefix ++ rest) ≡ row_at key_of cmp key rest
  find_past key [] rest h = refl
  find_past key (x ∷ prefix) rest h = ap (λ r. cond (is_eq r) (Some x) (row_at key_of cmp key (prefix ++ rest))) h.0 ∙ find_past key prefix rest h.1

  put_past : (key : K) (row : X) (prefix rest : List X) → all (λ x. cmp key (key_of x) ≡ Greater) prefix
      → put cmp key row (entries_of key_of cmp (prefix ++ rest)) ≡ entries_of key_of cmp prefix ++ put cmp key row (entries_of key_of cmp rest)
  put_past key row [] rest h = refl
  put_past key row (x ∷ prefix) rest h =
      ap (λ r. by_order r ((key, row) ∷ entries_of key_of cmp (x ∷ prefix ++ rest)) ((key_of x, row) ∷ entries_of key_of cmp (prefix ++ rest)) ((key_of x, x) ∷ put cmp key row (entries_of key_of cmp (prefix ++ rest)))) h.0
      ∙ ap (λ es. (key_of x, x) ∷ es) (put_past key row prefix rest h.1)

  find_before : (key : K) (rest : List X) → all (λ x. cmp key (key_of x) ≡ Less) rest → row_at key_of cmp key rest ≡ None
  find_before key [] h = refl
  find_before key (x ∷ rest) h = ap (λ r. cond (is_eq r) (Some x) (row_at key_of cmp key rest)) h.0 ∙ find_before key rest h.1

  put_before : (key : K) (row : X) (rest : List X) → all (λ x. cmp key (key_of x) ≡ Less) rest → put cmp key row (entries_of key_of cmp rest) ≡ (key, row) ∷ entries_of key_of cmp rest
  put_before key row [] h = refl
  put_before key row (x ∷ rest) h =
      ap (λ r. by_order r ((key, row) ∷ entries_of key_of cmp (x ∷ rest)) ((key_of x, row) ∷ entries_of key_of cmp rest) ((key_of x, x) ∷ put cmp key row (entries_of key_of cmp rest))) h.0

  -- ---- by index

  all_before : (P : X → Type 0) (xs : List X) (i : ℕ) → i ≤ length xs → ((k : ℕ) (d : X) → k < i → P (get_or xs k d)) → all P (take i xs)
  all_before P xs zero h p = tt
  all_before P [] (suc i) h p = absurd (omega arith)
  all_before P (x ∷ xs) (suc i) h p = (p 0 x (omega arith), all_before P xs i (omega arith) (λ k d lt. p (suc k) d (omega arith)))

  all_from : (P : X → Type 0) (xs : List X) (i : ℕ) → ((k : ℕ) (d : X) → i ≤ k → k < length xs → P (get_or xs k d)) → all P (drop i xs)
  all_from P [] zero p = tt
  all_from P [] (suc i) p = tt
  all_from P (x ∷ xs) zero p = (p 0 x (omega arith) (omega arith), all_from P xs zero (λ k d le lt. p (suc k) d (omega arith) (omega arith)))
  all_from P (x ∷ xs) (suc i) p = all_from P xs i (λ k d le lt. p (suc k) d (omega arith) (omega arith))

  below_at : (x : X) (xs : List X) → T (below_all cmp (key_of x) (entries_of key_of cmp xs)) → (k : ℕ) (d : X) → k < length xs → cmp (key_of x) (key_of (get_or xs k d)) ≡ Less
  below_at x [] h k d lt = absurd (omega arith)
  below_at x (y ∷ ys) h zero d lt = less _ (first _ _ h)
  below_at x (y ∷ ys) h (suc k) d lt = below_at x ys (second _ _ h) k d (omega arith)

  -- the keys rise
  pub rising_at : (xs : List X) → T (rise key_of cmp xs) → (i j : ℕ) (d : X) → i < j → j < length xs → cmp (key_of (get_or xs i d)) (key_of (get_or xs j d)) ≡ Less
  rising_at [] h i j d lt within = absurd (omega arith)
  rising_at (x ∷ xs) h zero zero d lt within = absurd (omega arith)
  rising_at (x ∷ xs) h zero (suc j) d lt within = below_at x xs (first _ _ h) j d (omega arith)
  rising_at (x ∷ xs) h (suc i) zero d lt within = absurd (omega arith)
  rising_at (x ∷ xs) h (suc i) (suc j) d lt within = rising_at xs (second _ _ h) i j d (omega arith) (omega arith)

  flipped : (a b : K) (r : Ordering) → cmp a b ≡ r → cmp b a ≡ ordering_reverse r
  flipped a b r e = o.antisymm b a ∙ ap ordering_reverse e

  abbrev others : K → List (K × X) → List (K × X)
  others key es = where_key cmp (λ other. not (eq_by_cmp cmp key other)) es

  -- rows whose keys are all before a key, or all after it, are others
  kept : (key : K) (r : Ordering) → is_eq r ≡ false → (ys : List X) → all (λ y. cmp key (key_of y) ≡ r) ys → others key (entries_of key_of cmp ys) ≡ entries_of key_of cmp ys
  kept key r apart [] h = refl
  kept key r apart (y ∷ ys) h =
      ap (λ b. cond (not b) ((key_of y, y) ∷ others key (entries_of key_of cmp ys)) (others key (entries_of key_of cmp ys))) (ap is_eq h.0 ∙ apart)
      ∙ ap (λ es. (key_of y, y) ∷ es) (kept key r apart ys h.1)

  -- ---- a row with the key

  module _ (xs : List X) (up : T (rise key_of cmp xs)) (i : ℕ) (x : X) (key : K) (within : i < length xs) (here : x ≡ get_or xs i x) (holds : (d : X) → cmp (key_of (get_or xs i d)) key ≡ Equal) where
    ties : cmp (key_of x) key ≡ Equal
    ties = ap (λ y. cmp (key_of y) key) here ∙ holds x

    lower : (k : ℕ) (d : X) → k < i → cmp key (key_of (get_or xs k d)) ≡ Greater
    lower k d lt =
        flipped (key_of (get_or xs k d)) key Less
        (sym (alike_right o (key_of x) key (key_of (get_or xs k d)) ties)
        ∙ ap (λ y. cmp (key_of (get_or xs k d)) (key_of y)) here ∙ ap (λ y. cmp (key_of y) (key_of (get_or xs i x))) (at_default k d x (omega arith))
        ∙ rising_at xs up k i x lt within)
      where
        at_default : (k : ℕ) (d e : X) → k < length xs → get_or xs k d ≡ get_or xs k e
        at_default k d e lt = get_or_default xs k d e lt

    split : xs ≡ take i xs ++ x ∷ drop (suc i) xs
    split = sym (take-append-drop i xs) ∙ ap (λ ys. take i xs ++ ys) (drop-cons xs i x within) ∙ ap (λ y. take i xs ++ y ∷ drop (suc i) xs) (sym here)

    passed : all (λ y. cmp key (key_of y) ≡ Greater) (take i xs)
    passed = all_before (λ y. cmp key (key_of y) ≡ Greater) xs i (omega arith) lower

    pub row_found : row_at key_of cmp key xs ≡ Some x
    row_found =
        ap (row_at key_of cmp key) split ∙ find_past key (take i xs) (x ∷ drop (suc i) xs) passed
        ∙ ap (λ r. cond (is_eq r) (Some x) (row_at key_of cmp key (drop (suc i) xs))) (flipped (key_of x) key Equal ties)

    after : all (λ y. cmp key (key_of y) ≡ Less) (drop (suc i) xs)
    after =
        all_from (λ y. cmp key (key_of y) ≡ Less) xs (suc i) (λ k d le lt.
        o.congr key (key_of x) (key_of (get_or xs k d)) (flipped (key_of x) key Equal ties)
        ∙ ap (λ y. cmp (key_of y) (key_of (get_or xs k d))) here ∙ ap (λ y. cmp (key_of y) (key_of (get_or xs k d))) (get_or_default xs i x d within) ∙ rising_at xs up i k d (omega arith) lt)

    -- without it
    pub taken_found : IsTakenOut key_of cmp key xs (take i xs ++ drop (suc i) xs)
    taken_found =
        map-append (entry_of key_of cmp) (take i xs) (drop (suc i) xs)
        ∙ (λ j. sym (kept key Greater refl (take i xs) passed) j ++ sym (kept key Less refl (drop (suc i) xs) after) j)
        ∙ ap (λ r. others key (entries_of key_of cmp (take i xs)) ++ cond (not (is_eq r)) ((key_of x, x) ∷ others key (entries_of key_of cmp (drop (suc i) xs))) (others key (entries_of key_of cmp (drop (suc i) xs)))) (sym (flipped (key_of x) key Equal ties))
        ∙ sym (filter-append (λ (e : K × X). not (eq_by_cmp cmp key e.0)) (entries_of key_of cmp (take i xs)) (entries_of key_of cmp (x ∷ drop (suc i) xs)))
        ∙ ap (others key) (sym (map-append (entry_of key_of cmp) (take i xs) (x ∷ drop (suc i) xs)) ∙ ap (entries_of key_of cmp) (sym split))

    pub put_found : (row : X) → key_of row ≡ key → IsPut key_of cmp row xs (set xs i row)
    put_found row e =
        ap (entries_of key_of cmp) (set_split xs i row within) ∙ map-append (entry_of key_of cmp) (take i xs) (row ∷ drop (suc i) xs)
        ∙ ap (λ k. entries_of key_of cmp (take i xs) ++ (k, row) ∷ entries_of key_of cmp (drop (suc i) xs)) (e ∙ sym (exact (key_of x) key ties))
        ∙ ap (λ es. entries_of key_of cmp (take i xs) ++ es) (sym (ap (λ r. by_order r ((key, row) ∷ entries_of key_of cmp (x ∷ drop (suc i) xs)) ((key_of x, row) ∷ entries_of key_of cmp (drop (suc i) xs)) ((key_of x, x) ∷ put cmp key row (entries_of key_of cmp (drop (suc i) xs)))) (flipped (key_of x) key Equal ties)))
        ∙ sym (put_past key row (take i xs) (x ∷ drop (suc i) xs) passed)
        ∙ ap (λ ys. put cmp key row (entries_of key_of cmp ys)) (sym split)
        ∙ ap (λ k. put cmp k row (entries_of key_of cmp xs)) (sym e)

  -- ---- no row with the key

  ranked : (x y key : K) (r : Ordering) → cmp x y ≡ Less → cmp y key ≡ r → ordering_index (cmp x key) ≤ ordering_index (cmp y key)
  ranked x y key Less lt e = subst (λ q. ordering_index q ≤ ordering_index (cmp y key)) (sym (o.trans x y key lt e)) (omega arith)
  ranked x y key Equal lt e = subst (λ q. ordering_index q ≤ ordering_index (cmp y key)) (sym (sym (alike_right o y key x e) ∙ lt)) (omega arith)
  ranked x y key Greater lt e = subst (λ q. ordering_index (cmp x key) ≤ ordering_index q) (sym e) (at_most (cmp x key))
    where
      at_most : (q : Ordering) → ordering_index q ≤ 2
      at_most Less = omega arith
      at_most Equal = omega arith
      at_most Greater = omega arith

  searchable : (xs : List X) → T (rise key_of cmp xs) → (key : K) → IsNonDecreasingBy (λ y. ordering_index (cmp (key_of y) key)) xs
  searchable xs up key i j d le within =
      elim (cases_lt i j) [
        | inl lt ↦ ranked (key_of (get_or xs i d)) (key_of (get_or xs j d)) key (cmp (key_of (get_or xs j d)) key) (rising_at xs up i j d lt within) refl
        | inr ge ↦ let same : i ≡ j = omega arith in subst (λ k. ordering_index (cmp (key_of (get_or xs i d)) key) ≤ ordering_index (cmp (key_of (get_or xs k d)) key)) same (omega arith)
      ]

  module _ (xs : List X) (up : T (rise key_of cmp xs)) (i : ℕ) (key : K) (within : i ≤ length xs)
      (point : IsNonDecreasingBy (λ y. ordering_index (cmp (key_of y) key)) xs → IsPartitionPoint (λ y. cmp (key_of y) key ≡ Less) (λ y. cmp (key_of y) key ≡ Greater) xs i) where
    low : all (λ y. cmp key (key_of y) ≡ Greater) (take i xs)
    low = all_before (λ y. cmp key (key_of y) ≡ Greater) xs i within (λ k d lt. flipped (key_of (get_or xs k d)) key Less ((point (searchable xs up key)).0 k d (omega arith) lt))

    high : all (λ y. cmp key (key_of y) ≡ Less) (drop i xs)
    high = all_from (λ y. cmp key (key_of y) ≡ Less) xs i (λ k d le lt. flipped (key_of (get_or xs k d)) key Greater ((point (searchable xs up key)).1 k d le lt))

    pub row_missed : row_at key_of cmp key xs ≡ None
    row_missed = ap (row_at key_of cmp key) (sym (take-append-drop i xs)) ∙ find_past key (take i xs) (drop i xs) low ∙ find_before key (drop i xs) high

    pub taken_missed : IsTakenOut key_of cmp key xs xs
    taken_missed =
        ap (entries_of key_of cmp) (sym (take-append-drop i xs)) ∙ map-append (entry_of key_of cmp) (take i xs) (drop i xs)
        ∙ (λ j. sym (kept key Greater refl (take i xs) low) j ++ sym (kept key Less refl (drop i xs) high) j)
        ∙ sym (filter-append (λ (e : K × X). not (eq_by_cmp cmp key e.0)) (entries_of key_of cmp (take i xs)) (entries_of key_of cmp (drop i xs)))
        ∙ ap (others key) (sym (map-append (entry_of key_of cmp) (take i xs) (drop i xs)) ∙ ap (entries_of key_of cmp) (take-append-drop i xs))

    pub put_missed : (row : X) → key_of row ≡ key → IsPut key_of cmp row xs (insert xs i row)
    put_missed row e =
        map-append (entry_of key_of cmp) (take i xs) (row ∷ drop i xs)
        ∙ ap (λ k. entries_of key_of cmp (take i xs) ++ (k, row) ∷ entries_of key_of cmp (drop i xs)) e
        ∙ ap (λ es. entries_of key_of cmp (take i xs) ++ es) (sym (put_before key row (drop i xs) high))
        ∙ sym (put_past key row (take i xs) (drop i xs) low)
        ∙ ap (λ ys. put cmp key row (entries_of key_of cmp ys)) (take-append-drop i xs)
        ∙ ap (λ k. put cmp k row (entries_of key_of cmp xs)) (sym e)

  -- ---- rows that stand together

  abbrev Above : List X → K → Type 0
  Above prefix key = all (λ y. cmp key (key_of y) ≡ Greater) prefix

  abbrev Below : List X → K → Type 0
  Below back key = all (λ y. cmp key (key_of y) ≡ Less) back

  all_append : (P : X → Type 0) (xs ys : List X) → all P xs → all P ys → all P (xs ++ ys)
  all_append P [] ys h k = k
  all_append P (x ∷ xs) ys h k = (h.0, all_append P xs ys h.1 k)

  put_between : (row : X) (prefix back : List X) → Above prefix (key_of row) → Below back (key_of row)
      → put cmp (key_of row) row (entries_of key_of cmp (prefix ++ back)) ≡ entries_of key_of cmp ((prefix ++ row ∷ []) ++ back)
  put_between row prefix back under over =
      put_past (key_of row) row prefix back under ∙ ap (λ es. entries_of key_of cmp prefix ++ es) (put_before (key_of row) row back over)
      ∙ sym (map-append (entry_of key_of cmp) prefix (row ∷ back)) ∙ ap (entries_of key_of cmp) (sym (append_assoc prefix (row ∷ []) back))

  one_more : (row : X) (rows prefix : List X) → T (below_all cmp (key_of row) (entries_of key_of cmp rows)) → all (λ r. Above prefix (key_of r)) rows → all (λ r. Above (prefix ++ row ∷ []) (key_of r)) rows
  one_more row [] prefix h under = tt
  one_more row (r ∷ rows) prefix h under =
      (all_append (λ y. cmp (key_of r) (key_of y) ≡ Greater) prefix (row ∷ []) under.0 (flipped (key_of row) (key_of r) Less (less _ (first _ _ h)), tt), one_more row rows prefix (second _ _ h) under.1)

  -- each is put after what is before and before what is after
  put_together : (added prefix back : List X) → T (rise key_of cmp added) → all (λ r. Above prefix (key_of r)) added → all (λ r. Below back (key_of r)) added
      → put_each key_of cmp added (entries_of key_of cmp (prefix ++ back)) ≡ entries_of key_of cmp (prefix ++ (added ++ back))
  put_together [] prefix back up under over = refl
  put_together (row ∷ rows) prefix back up under over =
      ap (put_each key_of cmp rows) (put_between row prefix back under.0 over.0)
      ∙ put_together rows (prefix ++ row ∷ []) back (second _ _ up) (one_more row rows prefix (first _ _ up) under.1) over.1
      ∙ ap (entries_of key_of cmp) (append_assoc prefix (row ∷ []) (rows ++ back))

  above_more : (key more : K) (prefix : List X) → cmp key more ≡ Less → Above prefix key → Above prefix more
  above_more key more [] lt h = tt
  above_more key more (y ∷ prefix) lt h = (flipped (key_of y) more Less (o.trans (key_of y) key more (flipped key (key_of y) Greater h.0) lt), above_more key more prefix lt h.1)

  below_more : (less_key key : K) (back : List X) → cmp less_key key ≡ Less → Below back key → Below back less_key
  below_more less_key key [] lt h = tt
  below_more less_key key (y ∷ back) lt h = (o.trans less_key key (key_of y) lt h.0, below_more less_key key back lt h.1)

  -- what the first stands after, all stand after
  after_prefix : (x : X) (rows prefix : List X) → T (below_all cmp (key_of x) (entries_of key_of cmp rows)) → Above prefix (key_of x) → all (λ r. Above prefix (key_of r)) rows
  after_prefix x [] prefix h under = tt
  after_prefix x (r ∷ rows) prefix h under = (above_more (key_of x) (key_of r) prefix (less _ (first _ _ h)) under, after_prefix x rows prefix (second _ _ h) under)

  -- what the last stands before, all stand before
  before_back : (added back : List X) (x : X) → T (rise key_of cmp added) → slice_get added (length added - 1) ≡ Some x → Below back (key_of x) → all (λ r. Below back (key_of r)) added
  before_back added back x up at h =
      all_from (λ r. Below back (key_of r)) added 0 (λ k d le lt.
      let here : get_or added (length added - 1) d ≡ x = get_or_from_slice_get added (length added - 1) x d at in
      elim (cases_lt k (length added - 1)) [
        | inl before ↦ below_more (key_of (get_or added k d)) (key_of x) back (ap (λ y. cmp (key_of (get_or added k d)) (key_of y)) (sym here) ∙ rising_at added up k (length added - 1) d before (omega arith)) h
        | inr ge ↦ let same : k ≡ length added - 1 = omega arith in subst (λ y. Below back (key_of y)) (sym (ap (λ n. get_or added n d) same ∙ here)) h
      ])

  -- a key before a row is before those after it
  before_drop : (xs : List X) → T (rise key_of cmp xs) → (i : ℕ) (key : K) → (i < length xs → (d : X) → cmp (key_of (get_or xs i d)) key ≡ Greater) → Below (drop i xs) key
  before_drop xs up i key h =
      all_from (λ y. cmp key (key_of y) ≡ Less) xs i (λ k d le lt.
      let here : cmp key (key_of (get_or xs i d)) ≡ Less = flipped (key_of (get_or xs i d)) key Greater (h (omega arith) d) in
      elim (cases_lt i k) [
        | inl after ↦ o.trans key (key_of (get_or xs i d)) (key_of (get_or xs k d)) here (rising_at xs up i k d after lt)
        | inr ge ↦ let same : i ≡ k = omega arith in subst (λ n. cmp key (key_of (get_or xs n d)) ≡ Less) same here
      ])

  -- rows that rise, of which the first would stand where the row stands that the last comes before, are put there
  pub put_at : (xs added : List X) (i : ℕ) (x y : X) → T (rise key_of cmp xs) → T (rise key_of cmp added) → i ≤ length xs
      → slice_get added 0 ≡ Some x → slice_get added (length added - 1) ≡ Some y
      → (IsNonDecreasingBy (λ z. ordering_index (cmp (key_of z) (key_of x))) xs → IsPartitionPoint (λ z. cmp (key_of z) (key_of x) ≡ Less) (λ z. cmp (key_of z) (key_of x) ≡ Greater) xs i)
      → (i < length xs → (d : X) → cmp (key_of (get_or xs i d)) (key_of y) ≡ Greater)
      → put_each key_of cmp added (entries_of key_of cmp xs) ≡ entries_of key_of cmp (insert_slice xs i added)
  put_at xs [] i x y up rises within prefix last point before = absurd (none_some prefix)
    where
      none_some : {A : Type 0} {a : A} → None ≡ Some a → ⊥
      none_some e = cc
  put_at xs (z ∷ added) i x y up rises within prefix last point before =
      let same : z ≡ x = cc in
      let under : Above (take i xs) (key_of z) = subst (λ r. Above (take i xs) (key_of r)) (sym same) (low xs up i (key_of x) within point) in
      let over = before_back (z ∷ added) (drop i xs) y rises last (before_drop xs up i (key_of y) before) in
      ap (λ ys. put_each key_of cmp (z ∷ added) (entries_of key_of cmp ys)) (sym (take-append-drop i xs))
      ∙ put_together (z ∷ added) (take i xs) (drop i xs) rises (under, after_prefix z added (take i xs) (first _ _ rises) under) over
      ∙ ap (entries_of key_of cmp) (sym (append_assoc (take i xs) (z ∷ added) (drop i xs)))

  all_at : (P : X → Type 0) (ys : List X) → all P ys → All P ys
  all_at P [] h k d lt = absurd (omega arith)
  all_at P (y ∷ ys) h zero d lt = h.0
  all_at P (y ∷ ys) h (suc k) d lt = all_at P ys h.1 k d (omega arith)

  -- and none of their keys was there
  pub put_new : (xs added : List X) (i : ℕ) (x y : X) → T (rise key_of cmp xs) → T (rise key_of cmp added) → i ≤ length xs
      → slice_get added 0 ≡ Some x → slice_get added (length added - 1) ≡ Some y
      → (IsNonDecreasingBy (λ z. ordering_index (cmp (key_of z) (key_of x))) xs → IsPartitionPoint (λ z. cmp (key_of z) (key_of x) ≡ Less) (λ z. cmp (key_of z) (key_of x) ≡ Greater) xs i)
      → (i < length xs → (d : X) → cmp (key_of (get_or xs i d)) (key_of y) ≡ Greater)
      → All (λ row. row_at key_of cmp (key_of row) xs ≡ None) added
  put_new xs [] i x y up rises within prefix last point before = λ k d lt. absurd (omega arith)
  put_new xs (z ∷ added) i x y up rises within prefix last point before =
      let same : z ≡ x = cc in
      let under : Above (take i xs) (key_of z) = subst (λ r. Above (take i xs) (key_of r)) (sym same) (low xs up i (key_of x) within point) in
      let over = before_back (z ∷ added) (drop i xs) y rises last (before_drop xs up i (key_of y) before) in
      all_at (λ row. row_at key_of cmp (key_of row) xs ≡ None) (z ∷ added) (each (z ∷ added) (under, after_prefix z added (take i xs) (first _ _ rises) under) over)
    where
      each : (rows : List X) → all (λ r. Above (take i xs) (key_of r)) rows → all (λ r. Below (drop i xs) (key_of r)) rows → all (λ row. row_at key_of cmp (key_of row) xs ≡ None) rows
      each [] under over = tt
      each (r ∷ rows) under over =
          (ap (row_at key_of cmp (key_of r)) (sym (take-append-drop i xs)) ∙ find_past (key_of r) (take i xs) (drop i xs) under.0 ∙ find_before (key_of r) (drop i xs) over.0, each rows under.1 over.1)

  -- a key at an end of a run is that of a row
  pub run_end : (rows : List X) (k : ℕ) (key : K) → slice_get (map key_of rows) k ≡ Some key → (row : X) × (slice_get rows k ≡ Some row) × (key_of row ≡ key)
  run_end rows k key at = by_found (slice_get rows k) refl (sym (slice_get-map key_of rows k) ∙ at)
    where
      by_found : (found : Option X) → slice_get rows k ≡ found → option_map key_of found ≡ Some key → (row : X) × (slice_get rows k ≡ Some row) × (key_of row ≡ key)
      by_found None is e = cc
      by_found (Some row) is e = let same : key_of row ≡ key = cc in (row, is, same)

  -- so a run is put, whose first would stand where the row stands that its last comes before
  module _ (xs : List X) (up : T (rise key_of cmp xs)) (i : ℕ) (from to : K) (within : i ≤ length xs)
      (point : IsNonDecreasingBy (λ z. ordering_index (cmp (key_of z) from)) xs → IsPartitionPoint (λ z. cmp (key_of z) from ≡ Less) (λ z. cmp (key_of z) from ≡ Greater) xs i)
      (before : i < length xs → (d : X) → cmp (key_of (get_or xs i d)) to ≡ Greater) (added : List X) (run : IsRun key_of cmp from to added) where
    point_at : (x : X) → key_of x ≡ from → IsNonDecreasingBy (λ z. ordering_index (cmp (key_of z) (key_of x))) xs
        → IsPartitionPoint (λ z. cmp (key_of z) (key_of x) ≡ Less) (λ z. cmp (key_of z) (key_of x) ≡ Greater) xs i
    point_at x is =
        subst (λ k. IsNonDecreasingBy (λ z. ordering_index (cmp (key_of z) k)) xs → IsPartitionPoint (λ z. cmp (key_of z) k ≡ Less) (λ z. cmp (key_of z) k ≡ Greater) xs i) (sym is) point

    before_at : (y : X) → key_of y ≡ to → i < length xs → (d : X) → cmp (key_of (get_or xs i d)) (key_of y) ≡ Greater
    before_at y is = subst (λ k. i < length xs → (d : X) → cmp (key_of (get_or xs i d)) k ≡ Greater) (sym is) before

    rising : T (rise key_of cmp added)
    rising = subst T (sym run.rising) tt

    pub run_put : ArePut key_of cmp added xs (insert_slice xs i added)
    run_put =
        let x = run_end added 0 from run.begins in
        let y = run_end added (length added - 1) to run.ends in
        sym (put_at xs added i x.0 y.0 up rising within x.1 y.1 (point_at x.0 x.2) (before_at y.0 y.2))

    pub run_new : All (λ row. row_at key_of cmp (key_of row) xs ≡ None) added
    run_new =
        let x = run_end added 0 from run.begins in
        let y = run_end added (length added - 1) to run.ends in
        put_new xs added i x.0 y.0 up rising within x.1 y.1 (point_at x.0 x.2) (before_at y.0 y.2)

  -- ---- rows of which each is below the next rise

  far_below : (x y : K) (ys : List X) → cmp x y ≡ Less → T (below_all cmp y (entries_of key_of cmp ys)) → T (below_all cmp x (entries_of key_of cmp ys))
  far_below x y [] lt h = tt
  far_below x y (z ∷ ys) lt h = message_id_of _ _ (lesser _ (o.trans x y (key_of z) lt (less _ (first _ _ h)))) (far_below x y ys lt (second _ _ h))

  pub rise_by_steps : (xs : List X) → ((k : ℕ) (d : X) → suc k < length xs → cmp (key_of (get_or xs k d)) (key_of (get_or xs (suc k) d)) ≡ Less) → T (rise key_of cmp xs)
  rise_by_steps [] h = tt
  rise_by_steps (x ∷ []) h = tt
  rise_by_steps (x ∷ y ∷ ys) h =
      let rest : T (rise key_of cmp (y ∷ ys)) = rise_by_steps (y ∷ ys) (λ k d lt. h (suc k) d (omega arith)) in
      let step : cmp (key_of x) (key_of y) ≡ Less = h 0 x (omega arith) in
      message_id_of _ _ (message_id_of _ _ (lesser _ step) (far_below (key_of x) (key_of y) ys step (first _ _ rest))) rest

  -- ---- rows that would rise together

  after_all : (x : X) (ys : List X) → T (below_all cmp (key_of x) (entries_of key_of cmp ys)) → all (λ y. cmp (key_of x) (key_of y) ≡ Less) ys
  after_all x [] h = tt
  after_all x (y ∷ ys) h = (less _ (first _ _ h), after_all x ys (second _ _ h))

  all_prefix : (P : X → Type 0) (xs ys : List X) → all P (xs ++ ys) → all P xs
  all_prefix P [] ys h = tt
  all_prefix P (x ∷ xs) ys h = (h.0, all_prefix P xs ys h.1)

  all_later : (P : X → Type 0) (xs ys : List X) → all P (xs ++ ys) → all P ys
  all_later P [] ys h = h
  all_later P (x ∷ xs) ys h = all_later P xs ys h.1

  -- each of the first is before each of the others
  apart : (prefix rest : List X) → T (rise key_of cmp (prefix ++ rest)) → all (λ x. all (λ y. cmp (key_of x) (key_of y) ≡ Less) rest) prefix
  apart [] rest h = tt
  apart (x ∷ prefix) rest h = (all_later (λ y. cmp (key_of x) (key_of y) ≡ Less) prefix rest (after_all x (prefix ++ rest) (first _ _ h)), apart prefix rest (second _ _ h))

  rise_later : (prefix rest : List X) → T (rise key_of cmp (prefix ++ rest)) → T (rise key_of cmp rest)
  rise_later [] rest h = h
  rise_later (x ∷ prefix) rest h = rise_later prefix rest (second _ _ h)

  below_prefix : (x : X) (prefix rest : List X) → T (below_all cmp (key_of x) (entries_of key_of cmp (prefix ++ rest))) → T (below_all cmp (key_of x) (entries_of key_of cmp prefix))
  below_prefix x [] rest h = tt
  below_prefix x (y ∷ prefix) rest h = message_id_of _ _ (first _ _ h) (below_prefix x prefix rest (second _ _ h))

  rise_prefix : (prefix rest : List X) → T (rise key_of cmp (prefix ++ rest)) → T (rise key_of cmp prefix)
  rise_prefix [] rest h = tt
  rise_prefix (x ∷ prefix) rest h = message_id_of _ _ (below_prefix x prefix rest (first _ _ h)) (rise_prefix prefix rest (second _ _ h))

  at_some : (P : X → Type 0) (ys : List X) (k : ℕ) (y : X) → slice_get ys k ≡ Some y → all P ys → P y
  at_some P [] zero y e h = absurd (cc)
  at_some P [] (suc k) y e h = absurd (cc)
  at_some P (z ∷ ys) zero y e h = let same : z ≡ y = cc in subst P same h.0
  at_some P (z ∷ ys) (suc k) y e h = at_some P ys k y e h.1

  -- rows that rise with others among them
  module _ (xs added : List X) (i : ℕ) (together : T (rise key_of cmp (insert_slice xs i added))) where
    joined : T (rise key_of cmp (take i xs ++ (added ++ drop i xs)))
    joined = subst (λ ys. T (rise key_of cmp ys)) (append_assoc (take i xs) added (drop i xs)) together

    pub rise_inside : T (rise key_of cmp added)
    rise_inside = rise_prefix added (drop i xs) (rise_later (take i xs) (added ++ drop i xs) joined)

    module _ (from to : K) (within : i ≤ length xs) (run : IsRun key_of cmp from to added) where
      under : (k : ℕ) (d : X) → k < i → cmp (key_of (get_or xs k d)) from ≡ Less
      under k d lt =
          let x = run_end added 0 from run.begins in
          let long : length (take i xs) ≡ i = length-take-le i xs within in
          let here : all (λ z. cmp (key_of (get_or (take i xs) k d)) (key_of z) ≡ Less) (added ++ drop i xs) =
          all_at (λ y. all (λ z. cmp (key_of y) (key_of z) ≡ Less) (added ++ drop i xs)) (take i xs) (apart (take i xs) (added ++ drop i xs) joined) k d (omega (arith, long)) in
          let before : cmp (key_of (get_or (take i xs) k d)) (key_of x.0) ≡ Less =
          at_some (λ z. cmp (key_of (get_or (take i xs) k d)) (key_of z) ≡ Less) added 0 x.0 x.1 (all_prefix (λ z. cmp (key_of (get_or (take i xs) k d)) (key_of z) ≡ Less) added (drop i xs) here) in
          subst (λ y. cmp (key_of y) from ≡ Less) (get_or-take i xs k d lt) (subst (λ q. cmp (key_of (get_or (take i xs) k d)) q ≡ Less) x.2 before)

      over : (n : ℕ) (key : K) → slice_get (map key_of added) n ≡ Some key → (k : ℕ) (d : X) → i ≤ k → k < length xs → cmp (key_of (get_or xs k d)) key ≡ Greater
      over n key at k d le lt =
          let x = run_end added n key at in
          let later : all (λ z. cmp (key_of x.0) (key_of z) ≡ Less) (drop i xs) =
          at_some (λ y. all (λ z. cmp (key_of y) (key_of z) ≡ Less) (drop i xs)) added n x.0 x.1 (apart added (drop i xs) (rise_later (take i xs) (added ++ drop i xs) joined)) in
          let long : length (drop i xs) ≡ length xs - i = length-drop i xs in
          let here : cmp (key_of x.0) (key_of (get_or (drop i xs) (k - i) d)) ≡ Less = all_at (λ z. cmp (key_of x.0) (key_of z) ≡ Less) (drop i xs) later (k - i) d (omega (arith, long)) in
          let place : i + (k - i) ≡ k = omega arith in
          let same : get_or (drop i xs) (k - i) d ≡ get_or xs k d = get_or-drop i xs (k - i) d ∙ ap (λ m. get_or xs m d) place in
          flipped key (key_of (get_or xs k d)) Less (subst (λ y. cmp key (key_of y) ≡ Less) same (subst (λ q. cmp q (key_of (get_or (drop i xs) (k - i) d)) ≡ Less) x.2 here))

      -- none of them has the first key
      pub first_is_new : (j : ℕ) (d : X) → j < length xs → cmp (key_of (get_or xs j d)) from ≡ Equal → ⊥
      first_is_new j d lt is =
          elim (cases_lt j i) [
            | inl before ↦ let two : Less ≡ Equal = sym (under j d before) ∙ is in cc
            | inr ge ↦ let two : Greater ≡ Equal = sym (over 0 from run.begins j d (omega arith) lt) ∙ is in cc
          ]

      -- and the last is before the row that the first is before
      pub last_is_before : T (rise key_of cmp xs) → (j : ℕ) (d : X) → j < length xs
          → (IsNonDecreasingBy (λ z. ordering_index (cmp (key_of z) from)) xs → IsPartitionPoint (λ z. cmp (key_of z) from ≡ Less) (λ z. cmp (key_of z) from ≡ Greater) xs j)
          → cmp (key_of (get_or xs j d)) to ≡ Greater
      last_is_before up j d lt point =
          elim (cases_lt j i) [
            | inl before ↦
                let greater : cmp (key_of (get_or xs j d)) from ≡ Greater = (point (searchable xs up from)).1 j d (omega arith) lt in
                let two : Less ≡ Greater = sym (under j d before) ∙ greater in
                absurd (cc)
            | inr ge ↦ over (length added - 1) to run.ends j d (omega arith) lt
          ]

  -- rows of which one isn't before a later one don't rise
  pub no_rise : (xs : List X) (i j : ℕ) (d : X) → i < j → j < length xs → (cmp (key_of (get_or xs i d)) (key_of (get_or xs j d)) ≡ Less → ⊥) → rise key_of cmp xs ≡ false
  no_rise xs i j d lt within apart = by_case (rise key_of cmp xs) refl
    where
      by_case : (b : Bool) → rise key_of cmp xs ≡ b → rise key_of cmp xs ≡ false
      by_case true up = absurd (apart (rising_at xs (subst T (sym up) tt) i j d lt within))
      by_case false flat = flat

-- what is said of no answer holds of any where it holds
pub of_none : {X P : Type 0} (found : Option X) → P → IfNone found P
of_none None p = p
of_none (Some x) p = tt

-- ---- after the last row

lowest : (r : Ordering) → ordering_index r ≤ 0 → r ≡ Less
lowest Less h = refl
lowest Equal h = absurd (omega arith)
lowest Greater h = absurd (omega arith)

-- where the last row is too low, and the rows don't fall, each is
pub after_last : {X : Type 0} (rank : X → Ordering) (xs : List X) (x : X) → slice_get xs (length xs - 1) ≡ Some x → rank x ≡ Less
    → IsNonDecreasingBy (λ y. ordering_index (rank y)) xs → IsPartitionPoint (λ y. rank y ≡ Less) (λ y. rank y ≡ Greater) xs (length xs)
after_last rank xs x at low up = (
  λ k d le lt.
      let last : ordering_index (rank (get_or xs k d)) ≤ ordering_index (rank (get_or xs (length xs - 1) d)) = up k (length xs - 1) d (omega arith) (omega arith) in
      let least : ordering_index (rank (get_or xs (length xs - 1) d)) ≡ 0 = ap (λ y. ordering_index (rank y)) (get_or_from_slice_get xs (length xs - 1) x d at) ∙ ap ordering_index low in
      lowest (rank (get_or xs k d)) (omega (arith, last, least)),
  λ k d le lt. absurd (omega arith),
)

pub tested : (b : Bool) → b ≡ true → T b
tested b e = subst T (sym e) tt

pub met : (b : Bool) → T b → b ≡ true
met true t = refl
met false t = absurd t

-- rows into which one was put rise
pub rise-put : {X K : Type 0} (key_of : X → K) (cmp : K → K → Ordering) → IsTotalOrder cmp → (row : X) (old new : List X) → IsPut key_of cmp row old new → rise key_of cmp old ≡ true → rise key_of cmp new ≡ true
rise-put key_of cmp o row old new put_there up =
    ap (is_sorted cmp) put_there ∙ met _ (is_sorted-put cmp o (key_of row) row (entries_of key_of cmp old) (tested _ up))

sorted_each : {X K : Type 0} (key_of : X → K) (cmp : K → K → Ordering) → IsTotalOrder cmp → (rows : List X) (entries : List (K × X)) → is_sorted cmp entries ≡ true → is_sorted cmp (put_each key_of cmp rows entries) ≡ true
sorted_each key_of cmp o [] entries sorted = sorted
sorted_each key_of cmp o (row ∷ rows) entries sorted = sorted_each key_of cmp o rows (put cmp (key_of row) row entries) (met _ (is_sorted-put cmp o (key_of row) row entries (tested _ sorted)))

-- rows into which others were put one after another rise
pub rise-put_each : {X K : Type 0} (key_of : X → K) (cmp : K → K → Ordering) → IsTotalOrder cmp → (added old new : List X) → ArePut key_of cmp added old new → rise key_of cmp old ≡ true → rise key_of cmp new ≡ true
rise-put_each key_of cmp o added old new are_put up = ap (is_sorted cmp) are_put ∙ sorted_each key_of cmp o added (entries_of key_of cmp old) up

-- rows without one rise
pub rise-taken : {X K : Type 0} (key_of : X → K) (cmp : K → K → Ordering) (key : K) (old new : List X) → IsTakenOut key_of cmp key old new → rise key_of cmp old ≡ true → rise key_of cmp new ≡ true
rise-taken key_of cmp key old new taken up =
    ap (is_sorted cmp) taken ∙ met _ (is_sorted-where_key cmp (λ other. not (eq_by_cmp cmp key other)) (entries_of key_of cmp old) (tested _ up))

-- ---- which keys are there

module _ {X K : Type 0} (key_of : X → K) (cmp : K → K → Ordering) (o : IsTotalOrder cmp) where
  pub settled_put : (row : X) (old new : List X) → IsPut key_of cmp row old new → SetsRow key_of cmp (key_of row) true old new
  settled_put row old new put_there other =
      ap is_some (ap (find cmp other) put_there ∙ find-put cmp o other (key_of row) row (entries_of key_of cmp old))
      ∙ elim (eq_by_cmp cmp other (key_of row)) as (λ b. is_some (cond b (Some row) (row_at key_of cmp other old)) ≡ cond b true (is_some (row_at key_of cmp other old))) [ true ↦ refl | false ↦ refl ]

  pub settled_taken : (key : K) (old new : List X) → IsTakenOut key_of cmp key old new → SetsRow key_of cmp key false old new
  settled_taken key old new taken other =
      ap is_some (ap (find cmp other) taken ∙ find-where_key cmp (λ q. not (eq_by_cmp cmp key q)) other (λ x t. ap (λ r. not (is_eq r)) (sym (alike_right o other x key t))) (entries_of key_of cmp old))
      ∙ ap (λ b. is_some (cond (not b) (row_at key_of cmp other old) None)) ((eq_by_cmp_equiv o).symm key other)
      ∙ elim (eq_by_cmp cmp other key) as (λ b. is_some (cond (not b) (row_at key_of cmp other old) None) ≡ cond b false (is_some (row_at key_of cmp other old))) [ true ↦ refl | false ↦ refl ]
