-- Lists of keys that are those of the rows that pass a test, and the rows found by them.
use Rattle.std.proofs.Common.{◌≡◌, ℕ, zero, suc, Bool, true, false, List, [], ◌∷◌, take, map, refl, sym, ap, ◌∙◌, true≢false}
use Rattle.std.specs.List.{cons_option}
use Rattle.std.specs.Prelude.{Option, Some, None, T, cond, is_some, filter, filter_map, nat_lt, ◌&&◌}
use Rattle.std.specs.declared.cmp.Ordering.{Ordering}
use Rattle.std.specs.declared.cmp.Ordering.TheVariants.{Less, Equal, Greater}
use Rattle.std.specs.Ordering.{eq_by_cmp, is_eq, nat_cmp, ordering_reverse}
use Rattle.std.specs.Cmp.{IsTotalOrder, nat_cmp_total, tied_itself}
use Rattle.std.specs.FinMap.{IsAntisymmetric, find, nat_cmp-IsAntisymmetric}
use Rattle.std.specs.FinMap.Entries.{below_all, find-where_key}
use Rattle.cut_measure.specs.Names.{Name, name_cmp}
use Rattle.shop_records.specs.declared.records.Part.{Part}
use Rattle.shop_records.specs.Content.{is_listed}
use Rattle.shop_records.specs.Lists.{is_after}
use Rattle.shop_records.proofs.Sums.{first, second, less, none_below}
use Rattle.shop_rows.specs.Keys.{part_key, names_total, names_exact}
use Rattle.shop_rows.specs.Open.{own_key, has, is_found, names_of, AreInOrder, ListsNumbers, ListsParts, parts_named}
use Rattle.shop_rows.specs.Rows.{entries_of, rise, row_at}
use Rattle.shop_rows.specs.declared.names.NameList.{NameList}
use Rattle.shop_rows.proofs.Places.{lesser, message_id_of, tested}
use Rattle.shop_rows.proofs.Listed.{tie, entries_filter, filter_filter, rise-filter}

-- what is below all keys is none of them
pub missed : {K X : Type 0} (cmp : K → K → Ordering) (q : K) (es : List (K × X)) → T (below_all cmp q es) → find cmp q es ≡ None
missed cmp q [] h = refl
missed cmp q (e ∷ es) h = ap (λ r. cond (is_eq r) (Some e.1) (find cmp q es)) (less _ (first _ _ h)) ∙ missed cmp q es (second _ _ h)

module _ {X K : Type 0} (key_of : X → K) (cmp : K → K → Ordering) (o : IsTotalOrder cmp) (exact : IsAntisymmetric cmp) where
  -- a row that is found has its key
  pub row_key : (key : K) (rows : List X) (row : X) → row_at key_of cmp key rows ≡ Some row → key_of row ≡ key
  row_key key [] row e = absurd (true≢false (sym (ap is_some e)))
  row_key key (x ∷ xs) row e = by_tie (row_key key xs row) (eq_by_cmp cmp key (key_of x)) refl e
    where
      by_tie : (row_at key_of cmp key xs ≡ Some row → key_of row ≡ key) → (b : Bool) → eq_by_cmp cmp key (key_of x) ≡ b → cond b (Some x) (row_at key_of cmp key xs) ≡ Some row → key_of row ≡ key
      by_tie later true is found = let same : x ≡ row = cc in ap key_of (sym same) ∙ sym (exact key (key_of x) (tie _ is))
      by_tie later false is found = later found

  module _ (test : X → Bool) where
    abbrev Names : List K → List X → Type 0
    Names keys rows = (key : K) → has cmp key keys ≡ is_found test (row_at key_of cmp key rows)

    abbrev Later : List X → Type 0
    Later rows = (keys : List K) → T (rise own_key cmp keys) → Names keys rows → keys ≡ map key_of (filter test rows)

    -- keys that rise, and are there exactly where a row passes, are those of the rows that pass
    pub same_keys : (keys : List K) (rows : List X) → T (rise own_key cmp keys) → T (rise key_of cmp rows) → Names keys rows → keys ≡ map key_of (filter test rows)
    same_keys [] [] up rises names = refl
    same_keys (k ∷ keys) [] up rises names =
        absurd (true≢false (ap (λ r. is_some (cond (is_eq r) (Some k) (row_at own_key cmp k keys))) (sym (tied_itself o k)) ∙ names k))
    same_keys keys (x ∷ xs) up rises names = by_test (λ ks ks_up. same_keys ks xs ks_up (second _ _ rises)) (test x) refl
      where
        own : is_found test (row_at key_of cmp (key_of x) (x ∷ xs)) ≡ test x
        own = ap (λ r. is_found test (cond (is_eq r) (Some x) (row_at key_of cmp (key_of x) xs))) (tied_itself o (key_of x))

        gone : row_at key_of cmp (key_of x) xs ≡ None
        gone = missed cmp (key_of x) (entries_of key_of cmp xs) (first _ _ rises)

        -- the rest of the keys are those of the rest of the rows
        rest : (ks : List K) → has cmp (key_of x) ks ≡ false → ((key : K) → eq_by_cmp cmp key (key_of x) ≡ false → has cmp key ks ≡ has cmp key keys) → Names ks xs
        rest ks none far key = by_key (eq_by_cmp cmp key (key_of x)) refl
          where
            by_key : (b : Bool) → eq_by_cmp cmp key (key_of x) ≡ b → has cmp key ks ≡ is_found test (row_at key_of cmp key xs)
            by_key true e =
                let same = exact key (key_of x) (tie _ e) in
                ap (λ q. has cmp q ks) same ∙ none ∙ ap (is_found test) (sym gone) ∙ ap (λ q. is_found test (row_at key_of cmp q xs)) (sym same)
            by_key false e = far key e ∙ names key ∙ ap (λ b. is_found test (cond b (Some x) (row_at key_of cmp key xs))) e

        passes : Later xs → (ks : List K) → ks ≡ keys → T (rise own_key cmp ks) → test x ≡ true → ks ≡ key_of x ∷ map key_of (filter test xs)
        passes later [] is ks_up so = absurd (true≢false (sym (ap (has cmp (key_of x)) is ∙ names (key_of x) ∙ own ∙ so)))
        passes later (k ∷ ks) is ks_up so = by_order (cmp (key_of x) k) refl
          where
            here : has cmp (key_of x) (k ∷ ks) ≡ true
            here = ap (has cmp (key_of x)) is ∙ names (key_of x) ∙ own ∙ so

            by_order : (r : Ordering) → cmp (key_of x) k ≡ r → k ∷ ks ≡ key_of x ∷ map key_of (filter test xs)
            by_order Less e =
                absurd (true≢false (sym here
                ∙ ap is_some (missed cmp (key_of x) (entries_of own_key cmp (k ∷ ks)) (message_id_of _ _ (lesser _ e) (below (key_of x) k ks e (first _ _ ks_up))))))
              where
                below : (a b : K) (cs : List K) → cmp a b ≡ Less → T (below_all cmp b (entries_of own_key cmp cs)) → T (below_all cmp a (entries_of own_key cmp cs))
                below a b [] lt h = tt
                below a b (c ∷ cs) lt h = message_id_of _ _ (lesser _ (o.trans a b c lt (less _ (first _ _ h)))) (below a b cs lt (second _ _ h))
            by_order Equal e =
                let same : key_of x ≡ k = exact (key_of x) k e in
                let none : has cmp (key_of x) ks ≡ false = ap is_some (ap (λ q. row_at own_key cmp q ks) same ∙ missed cmp k (entries_of own_key cmp ks) (first _ _ ks_up)) in
                (λ i. sym same i ∷ later ks (second _ _ ks_up)
                (rest ks none (λ key apart. sym (ap (λ b. is_some (cond b (Some k) (row_at own_key cmp key ks))) (ap (λ q. eq_by_cmp cmp key q) (sym same) ∙ apart)) ∙ ap (has cmp key) is)) i)
            by_order Greater e =
                absurd (true≢false (sym (ap is_some (ap (λ r. cond (is_eq r) (Some k) (row_at own_key cmp k ks)) (tied_itself o k))) ∙ ap (has cmp k) is ∙ names k
                ∙ ap (is_found test) (ap (λ r. cond (is_eq r) (Some x) (row_at key_of cmp k xs)) lower ∙ none_below o k (key_of x) (entries_of key_of cmp xs) lower (first _ _ rises))))
              where
                lower : cmp k (key_of x) ≡ Less
                lower = o.antisymm k (key_of x) ∙ ap ordering_reverse e

        by_test : Later xs → (b : Bool) → test x ≡ b → keys ≡ map key_of (cond b (x ∷ filter test xs) (filter test xs))
        by_test later true e = passes later keys refl up e
        by_test later false e = later keys up (rest keys (names (key_of x) ∙ own ∙ e) (λ key apart. refl))

    pub below_filter : (q : K) (rows : List X) → T (below_all cmp q (entries_of key_of cmp rows)) → T (below_all cmp q (entries_of key_of cmp (filter test rows)))
    below_filter q [] h = tt
    below_filter q (x ∷ xs) h =
        elim (test x) as (λ b. T (below_all cmp q (entries_of key_of cmp (cond b (x ∷ filter test xs) (filter test xs))))) [
          | true ↦ message_id_of _ _ (first _ _ h) (below_filter q xs (second _ _ h))
          | false ↦ below_filter q xs (second _ _ h)
        ]

    after_first : (x : X) (xs ys : List X) → T (below_all cmp (key_of x) (entries_of key_of cmp ys))
        → map (λ key. row_at key_of cmp key (x ∷ xs)) (map key_of ys) ≡ map (λ key. row_at key_of cmp key xs) (map key_of ys)
    after_first x xs [] h = refl
    after_first x xs (y ∷ ys) h =
        let apart : is_eq (cmp (key_of y) (key_of x)) ≡ false = ap is_eq (o.antisymm (key_of y) (key_of x) ∙ ap ordering_reverse (less _ (first _ _ h))) in
        λ i. cond (apart i) (Some x) (row_at key_of cmp (key_of y) xs) ∷ after_first x xs ys (second _ _ h) i

    -- each row that passes is found by its key
    pub found_each : (rows : List X) → T (rise key_of cmp rows) → map (λ key. row_at key_of cmp key rows) (map key_of (filter test rows)) ≡ map (λ row. Some row) (filter test rows)
    found_each [] up = refl
    found_each (x ∷ xs) up =
        let later = after_first x xs (filter test xs) (below_filter (key_of x) xs (first _ _ up)) ∙ found_each xs (second _ _ up) in
        elim (test x) as (λ b. map (λ key. row_at key_of cmp key (x ∷ xs)) (map key_of (cond b (x ∷ filter test xs) (filter test xs))) ≡ map (λ row. Some row) (cond b (x ∷ filter test xs) (filter test xs))) [
          | true ↦ λ i. cond (is_eq (tied_itself o (key_of x) i)) (Some x) (row_at key_of cmp (key_of x) xs) ∷ later i
          | false ↦ later
        ]

-- the first of what is found of each
pub found_first : {A X : Type 0} (at : A → Option X) (names : List A) (xs : List X) (n : ℕ) → map at names ≡ map (λ x. Some x) xs → filter_map at (take n names) ≡ take n xs
found_first at names xs zero e = refl
found_first at [] [] (suc n) e = refl
found_first at [] (x ∷ xs) (suc n) e = cc
found_first at (a ∷ names) [] (suc n) e = cc
found_first at (a ∷ names) (x ∷ xs) (suc n) e =
    let one : at a ≡ Some x = cc in
    let more : map at names ≡ map (λ y. Some y) xs = cc in
    ap (λ r. cons_option r (filter_map at (take n names))) one ∙ ap (λ ys. x ∷ ys) (found_first at names xs n more)

pub found_all : {A X : Type 0} (at : A → Option X) (names : List A) (xs : List X) → map at names ≡ map (λ x. Some x) xs → filter_map at names ≡ xs
found_all at [] [] e = refl
found_all at [] (x ∷ xs) e = cc
found_all at (a ∷ names) [] e = cc
found_all at (a ∷ names) (x ∷ xs) e =
    let one : at a ≡ Some x = cc in
    let more : map at names ≡ map (λ y. Some y) xs = cc in
    ap (λ r. cons_option r (filter_map at names)) one ∙ ap (λ ys. x ∷ ys) (found_all at names xs more)

-- ---- numbers after another

-- the numbers after another are those of the rows after it that pass
module _ {X : Type 0} (key_of : X → ℕ) (test : X → Bool) (after : ℕ) (keys : List ℕ) (rows : List X) (up : rise own_key nat_cmp keys ≡ true) (rises : rise key_of nat_cmp rows ≡ true)
    (lists : ListsNumbers test (λ number. row_at key_of nat_cmp number rows) keys) where
  abbrev passes : X → Bool
  passes row = nat_lt after (key_of row) && test row

  has_number : (number : ℕ) → has nat_cmp number (filter (nat_lt after) keys) ≡ (nat_lt after number && has nat_cmp number keys)
  has_number number =
      ap is_some (ap (find nat_cmp number) (entries_filter own_key nat_cmp (nat_lt after) keys)
      ∙ find-where_key nat_cmp (nat_lt after) number (λ x t. ap (nat_lt after) (sym (nat_cmp-IsAntisymmetric number x t))) (entries_of own_key nat_cmp keys))
      ∙ elim (nat_lt after number) as (λ b. is_some (cond b (row_at own_key nat_cmp number keys) None) ≡ (b && has nat_cmp number keys)) [ true ↦ refl | false ↦ refl ]

  pub numbers_are : filter (nat_lt after) keys ≡ map key_of (filter passes rows)
  numbers_are =
      same_keys key_of nat_cmp nat_cmp_total nat_cmp-IsAntisymmetric passes (filter (nat_lt after) keys) rows (tested _ (rise-filter own_key nat_cmp (nat_lt after) keys up)) (tested _ rises)
      (λ number. has_number number ∙ ap (λ b. nat_lt after number && b) (lists number) ∙ by_found number (row_at key_of nat_cmp number rows) refl)
    where
      by_found : (number : ℕ) (found : Option X) → row_at key_of nat_cmp number rows ≡ found → (nat_lt after number && is_found test found) ≡ is_found passes found
      by_found number None e = elim (nat_lt after number) as (λ b. (b && false) ≡ false) [ true ↦ refl | false ↦ refl ]
      by_found number (Some row) e = ap (λ n. nat_lt after n && test row) (sym (row_key key_of nat_cmp nat_cmp_total nat_cmp-IsAntisymmetric number rows row e))

  pub numbered_are : filter_map (λ number. row_at key_of nat_cmp number rows) (filter (nat_lt after) keys) ≡ filter passes rows
  numbered_are =
      ap (filter_map (λ number. row_at key_of nat_cmp number rows)) numbers_are
      ∙ found_all (λ number. row_at key_of nat_cmp number rows) (map key_of (filter passes rows)) (filter passes rows) (found_each key_of nat_cmp nat_cmp_total nat_cmp-IsAntisymmetric passes rows (tested _ rises))

-- ---- the names of a material

filter_map_in : {X K : Type 0} (key_of : X → K) (p : K → Bool) (xs : List X) → filter p (map key_of xs) ≡ map key_of (filter (λ x. p (key_of x)) xs)
filter_map_in key_of p [] = refl
filter_map_in key_of p (x ∷ xs) =
    elim (p (key_of x)) as (λ b. cond b (key_of x ∷ filter p (map key_of xs)) (filter p (map key_of xs)) ≡ map key_of (cond b (x ∷ filter (λ y. p (key_of y)) xs) (filter (λ y. p (key_of y)) xs))) [
      | true ↦ ap (λ ks. key_of x ∷ ks) (filter_map_in key_of p xs)
      | false ↦ filter_map_in key_of p xs
    ]

module _ (code : List ℕ) (after : Option Name) (lists : List NameList) (parts : List Part) (order : AreInOrder lists) (rises : rise part_key name_cmp parts ≡ true)
    (listed : ListsParts (λ name. row_at part_key name_cmp name parts) lists) where
  abbrev stands : Part → Bool
  stands part = is_listed code part && is_after after part.name

  -- the names of the list are those of the material's standing parts
  names_are : names_of code lists ≡ map part_key (filter (is_listed code) parts)
  names_are =
      same_keys part_key name_cmp names_total names_exact (is_listed code) (names_of code lists) parts (tested _ (order.names code)) (tested _ rises) (λ name. listed (record { material = code; name = name }))

  after_are : filter (is_after after) (names_of code lists) ≡ map part_key (filter stands parts)
  after_are =
      ap (filter (is_after after)) names_are ∙ filter_map_in part_key (is_after after) (filter (is_listed code) parts)
      ∙ ap (map part_key) (filter_filter (is_listed code) (λ part. is_after after part.name) parts)

  each_is : map (λ name. row_at part_key name_cmp name parts) (filter (is_after after) (names_of code lists)) ≡ map (λ part. Some part) (filter (λ part. is_after after part.name) (filter (is_listed code) parts))
  each_is =
      ap (map (λ name. row_at part_key name_cmp name parts)) after_are ∙ found_each part_key name_cmp names_total names_exact stands parts (tested _ rises)
      ∙ ap (map (λ part. Some part)) (sym (filter_filter (is_listed code) (λ part. is_after after part.name) parts))

  -- the parts of these names are those of the material that stand and come after the name
  pub named_are : parts_named (filter (is_after after) (names_of code lists)) parts ≡ filter (λ part. is_after after part.name) (filter (is_listed code) parts)
  named_are =
      found_all (λ name. row_at part_key name_cmp name parts) (filter (is_after after) (names_of code lists)) (filter (λ part. is_after after part.name) (filter (is_listed code) parts)) each_is

  -- and those of the first names are the first of these
  pub first_named_are : (most : ℕ) → parts_named (take most (filter (is_after after) (names_of code lists))) parts ≡ take most (filter (λ part. is_after after part.name) (filter (is_listed code) parts))
  first_named_are most =
      found_first (λ name. row_at part_key name_cmp name parts) (filter (is_after after) (names_of code lists)) (filter (λ part. is_after after part.name) (filter (is_listed code) parts)) most each_is
