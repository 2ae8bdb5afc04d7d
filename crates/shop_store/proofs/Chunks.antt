-- Rows that are read some at a time, and values that are put one after another.
use Rattle.std.proofs.Common.{◌≡◌, ◌+◌, ◌-◌, ◌<◌, ◌≤◌, ℕ, zero, suc, nat_le, Bool, true, false, cond, List, [], ◌∷◌, ◌++◌, length, map, filter, take, drop, get_or, Some, refl, sym, ap, subst, ◌∙◌, arith}
use Rattle.std.specs.Prelude.{T}
use Rattle.std.specs.List.{slice_get}
use Rattle.std.specs.Ordering.{is_lt, nat_cmp}
use Rattle.std.specs.declared.cmp.Ordering.TheVariants.{Less}
use Rattle.std.specs.FinMap.Entries.{below_all}
use Rattle.std.proofs.lemmas.Bool.Decides.{nat_tests}
use Rattle.std.proofs.lemmas.List.{append_assoc, append-nil, drop_more, get_or-map, length-append, length-map, map-append, take-append-drop}
use Rattle.sqlite.specs.Order.{Row}
use Rattle.cut_tree.proofs.FirstWords.{all_taken}
use Rattle.shop_records.specs.Content.{Content}
use Rattle.shop_records.proofs.Sums.{first, second, less}
use Rattle.shop_rows.specs.Rows.{entries_of, rise}
use Rattle.shop_store.specs.Loading.{FitInTurn, with_each}

-- ---- values that are put one after another

module _ {X : Type 0} (put : X → Content → Content) where
  pub each_append : (a b : List X) (m : Content) → with_each put (a ++ b) m ≡ with_each put b (with_each put a m)
  each_append [] b m = refl
  each_append (x ∷ a) b m = each_append a b (put x m)

  module _ (fits : Content → X → Type 0) where
    pub fit_first : (a b : List X) (m : Content) → FitInTurn fits put (a ++ b) m → FitInTurn fits put a m
    fit_first [] b m h = tt
    fit_first (x ∷ a) b m h = (h.0, fit_first a b (put x m) h.1)

    pub fit_rest : (a b : List X) (m : Content) → FitInTurn fits put (a ++ b) m → FitInTurn fits put b (with_each put a m)
    fit_rest [] b m h = h
    fit_rest (x ∷ a) b m h = fit_rest a b (put x m) h.1

-- ---- rows of values

module _ {X : Type 0} (row_of : X → Row) where
  -- the row at a place is that of the value there
  pub value_at : (values : List X) (rows : List Row) (i : ℕ) (row : Row) → rows ≡ map row_of values → i < length rows → row ≡ get_or rows i row → (x : X) × (drop i values ≡ x ∷ drop (i + 1) values) × (row ≡ row_of x)
  value_at [] rows i row is inside at = absurd (let e : length rows ≡ 0 = ap length is in omega (arith, e, inside))
  value_at (v ∷ values) rows i row is inside at =
      let within : i < length (v ∷ values) = let same = ap length is ∙ length-map (v ∷ values) row_of in omega (arith, inside, same) in (
        get_or (v ∷ values) i v,
        drop_more (v ∷ values) i v within,
        at ∙ ap (λ rs. get_or rs i row) is ∙ get_or-map row_of (v ∷ values) i v row within,
      )

  pub none_left : (values : List X) (rows : List Row) (i : ℕ) → rows ≡ map row_of values → length rows ≤ i → drop i values ≡ []
  none_left values rows i is past = drop_past values i (let same = ap length is ∙ length-map values row_of in omega (arith, past, same))
    where
      drop_past : (xs : List X) (k : ℕ) → length xs ≤ k → drop k xs ≡ []
      drop_past [] zero h = refl
      drop_past [] (suc k) h = refl
      drop_past (x ∷ xs) zero h = absurd (omega (arith, h))
      drop_past (x ∷ xs) (suc k) h = drop_past xs k (omega (arith, h))

  -- the last row is that of the last value
  pub last_value : (values : List X) (rows : List Row) (row : Row) → rows ≡ map row_of values → slice_get rows (length rows - 1) ≡ Some row → (before : List X) × (last : X) × (values ≡ before ++ last ∷ []) × (row ≡ row_of last)
  last_value [] rows row is at = absurd (let e : slice_get {X = Row} [] (length {A = Row} [] - 1) ≡ Some row = subst (λ rs. slice_get rs (length rs - 1) ≡ Some row) is at in cc)
  last_value (v ∷ values) rows row is at =
      let s = from_end v values in
      let shown : rows ≡ map row_of s.0 ++ row_of s.1 ∷ [] = is ∙ ap (map row_of) s.2 ∙ map-append row_of s.0 (s.1 ∷ []) in
      let found : Some (row_of s.1) ≡ Some row = sym (at_end (map row_of s.0) (row_of s.1)) ∙ ap (λ rs. slice_get rs (length rs - 1)) (sym shown) ∙ at in
      (s.0, s.1, s.2, sym (let e : row_of s.1 ≡ row = cc in e))
    where
      from_end : (v : X) (xs : List X) → (before : List X) × (last : X) × (v ∷ xs ≡ before ++ last ∷ [])
      from_end v [] = ([], v, refl)
      from_end v (x ∷ xs) = let s = from_end x xs in (v ∷ s.0, s.1, ap (λ l. v ∷ l) s.2)

      at_place : (rs : List Row) (r : Row) → slice_get (rs ++ r ∷ []) (length rs) ≡ Some r
      at_place [] r = refl
      at_place (q ∷ rs) r = at_place rs r

      at_end : (rs : List Row) (r : Row) → slice_get (rs ++ r ∷ []) (length (rs ++ r ∷ []) - 1) ≡ Some r
      at_end rs r = ap (slice_get (rs ++ r ∷ [])) (let e = length-append rs (r ∷ []) in omega (arith, e)) ∙ at_place rs r

-- fewer rows than were asked for are all
pub not_cut_off : {X : Type 0} (row_of : X → Row) (xs : List X) (rows : List Row) (most : ℕ) → rows ≡ map row_of (take most xs) → length rows < most → take most xs ≡ xs
not_cut_off row_of xs rows most is few = all_taken most xs (let same = ap length is ∙ length-map (take most xs) row_of in omega (arith, same, few))

-- ---- chunks of rows by rising number

module _ {X : Type 0} (number : X → ℕ) where
  abbrev pub from : ℕ → X → Bool
  from n x = nat_le n (number x)

  keeps : (p : X → Bool) (x : X) (xs : List X) → p x ≡ true → filter p (x ∷ xs) ≡ x ∷ filter p xs
  keeps p x xs h = ap (λ b. cond b (x ∷ filter p xs) (filter p xs)) h

  drops : (p : X → Bool) (x : X) (xs : List X) → p x ≡ false → filter p (x ∷ xs) ≡ filter p xs
  drops p x xs h = ap (λ b. cond b (x ∷ filter p xs) (filter p xs)) h

  later : (m n : ℕ) → nat_cmp m n ≡ Less → nat_le (suc m) n ≡ true
  later m n h = grind (arith, nat_tests, h)

  not_later : (m n : ℕ) → nat_cmp n m ≡ Less → nat_le (suc m) n ≡ false
  not_later m n h = grind (arith, nat_tests, h)

  not_itself : (m : ℕ) → nat_le (suc m) m ≡ false
  not_itself m = grind (arith, nat_tests)

  all_later : (k : ℕ) (xs : List X) → T (below_all nat_cmp k (entries_of number nat_cmp xs)) → filter (from (suc k)) xs ≡ xs
  all_later k [] t = refl
  all_later k (x ∷ xs) t = keeps (from (suc k)) x xs (later k (number x) (less _ (first _ _ t))) ∙ ap (λ l. x ∷ l) (all_later k xs (second (is_lt (nat_cmp k (number x))) _ t))

  lower : (k : ℕ) (a b : List X) (x : X) → T (below_all nat_cmp k (entries_of number nat_cmp (a ++ x ∷ b))) → nat_cmp k (number x) ≡ Less
  lower k [] b x t = less _ (first _ _ t)
  lower k (y ∷ a) b x t = lower k a b x (second (is_lt (nat_cmp k (number y))) _ t)

  -- what comes after a value is what has a greater number
  after_value : (a b : List X) (x : X) → T (rise number nat_cmp (a ++ x ∷ b)) → filter (from (suc (number x))) (a ++ x ∷ b) ≡ b
  after_value [] b x t = drops (from (suc (number x))) x b (not_itself (number x)) ∙ all_later (number x) b (first _ _ t)
  after_value (y ∷ a) b x t =
      drops (from (suc (number x))) y (a ++ x ∷ b) (not_later (number x) (number y) (lower (number y) a b x (first _ _ t)))
      ∙ after_value a b x (second (below_all nat_cmp (number y) (entries_of number nat_cmp (a ++ x ∷ b))) _ t)

  -- with a chunk, what was read goes on to the chunk's last value
  pub next_chunk : (all loaded : List X) (n most next : ℕ) (before : List X) (last : X) → rise number nat_cmp all ≡ true → all ≡ loaded ++ filter (from n) all → take most (filter (from n) all) ≡ before ++ last ∷ [] → next ≡ suc (number last)
      → all ≡ (loaded ++ take most (filter (from n) all)) ++ filter (from next) all
  next_chunk all loaded n most next before last up is chunk goes_on =
      let rest = drop most (filter (from n) all) in
      let split : filter (from n) all ≡ take most (filter (from n) all) ++ rest = sym (take-append-drop most (filter (from n) all)) in
      let whole : all ≡ (loaded ++ before) ++ last ∷ rest =
      is ∙ ap (λ l. loaded ++ l) (split ∙ ap (λ l. l ++ rest) chunk ∙ append_assoc before (last ∷ []) rest) ∙ sym (append_assoc loaded before (last ∷ rest)) in
      let later_ones : filter (from next) all ≡ rest =
      ap (λ k. filter (from k) all) goes_on ∙ ap (filter (from (suc (number last)))) whole ∙ after_value (loaded ++ before) rest last (subst (λ l. T (rise number nat_cmp l)) whole (subst T (sym up) tt)) in
      is ∙ ap (λ l. loaded ++ l) split ∙ sym (append_assoc loaded (take most (filter (from n) all)) rest) ∙ ap (λ l. (loaded ++ take most (filter (from n) all)) ++ l) (sym later_ones)

  -- every number is at least 0
  pub from_0 : (xs : List X) → filter (from 0) xs ≡ xs
  from_0 [] = refl
  from_0 (x ∷ xs) = keeps (from 0) x xs (at_least_0 (number x)) ∙ ap (λ l. x ∷ l) (from_0 xs)
    where
      at_least_0 : (n : ℕ) → nat_le 0 n ≡ true
      at_least_0 n = grind (arith, nat_tests)

  no_chunk : (xs : List X) (most : ℕ) → 0 < most → take most xs ≡ [] → xs ≡ []
  no_chunk [] most some is = refl
  no_chunk (x ∷ xs) zero some is = absurd (omega (arith, some))
  no_chunk (x ∷ xs) (suc most) some is = absurd (cc)

  module _ (put : X → Content → Content) (fits : Content → X → Type 0) (all loaded : List X) (n most : ℕ) (first now : Content) (is : all ≡ loaded ++ filter (from n) all) (so_far : now ≡ with_each put loaded first) where
    -- what has to be known of a chunk is known
    pub chunk_fits : FitInTurn fits put all first → FitInTurn fits put (take most (filter (from n) all)) now
    chunk_fits fit =
        let left = filter (from n) all in
        let rest = fit_rest put fits loaded left first (subst (λ l. FitInTurn fits put l first) is fit) in
        subst (FitInTurn fits put (take most left)) (sym so_far) (fit_first put fits (take most left) (drop most left) (with_each put loaded first) (subst (λ l. FitInTurn fits put l (with_each put loaded first)) (sym (take-append-drop most left)) rest))

    -- with an empty chunk all values are put
    pub all_are_put : (new : Content) → 0 < most → take most (filter (from n) all) ≡ [] → new ≡ with_each put (take most (filter (from n) all)) now → new ≡ with_each put all first
    all_are_put new some ended put_now =
        put_now ∙ ap (λ l. with_each put l now) ended ∙ so_far
        ∙ ap (λ l. with_each put l first) (sym (append-nil loaded) ∙ ap (λ l. loaded ++ l) (sym (no_chunk (filter (from n) all) most some ended)) ∙ sym is)

    pub chunk_is_put : (new : Content) → new ≡ with_each put (take most (filter (from n) all)) now → new ≡ with_each put (loaded ++ take most (filter (from n) all)) first
    chunk_is_put new put_now = put_now ∙ ap (with_each put (take most (filter (from n) all))) so_far ∙ sym (each_append put loaded (take most (filter (from n) all)) first)
