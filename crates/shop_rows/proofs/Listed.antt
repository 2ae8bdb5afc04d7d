-- Lists of keys: which they have, their runs, and the rows that they name.
use Rattle.std.proofs.Common.{◌≡◌, inl, inr, ℕ, zero, suc, ◌<◌, ◌≤◌, Bool, true, false, List, [], ◌∷◌, length, take, drop, get_or, refl, sym, ap, subst, ◌∙◌, arith, true≢false}
use Rattle.std.proofs.lemmas.Bool.{le-leb, lt-ltb, leb-true, leb-false, ltb-true, ltb-false}
use Rattle.std.proofs.Common.{leb, ltb}
use Rattle.std.specs.Prelude.{nat_lt, All, IfSome, Option, Some, None, cond, not, filter, ◌&&◌}
use Rattle.std.specs.declared.cmp.Ordering.{Ordering}
use Rattle.std.specs.declared.cmp.Ordering.TheVariants.{Less, Equal, Greater}
use Rattle.std.specs.Ordering.{eq_by_cmp, is_eq, is_lt, nat_cmp, ordering_then}
use Rattle.std.specs.Cmp.{IsTotalOrder, eq_by_cmp_equiv, ranked, tied_itself}
use Rattle.std.specs.Cmp.Lexicographic.{nat_list_cmp_total}
use Rattle.std.specs.FinMap.{IsAntisymmetric, find, is_sorted, put}
use Rattle.std.specs.FinMap.Entries.{find-put, is_sorted-where_key, where_key}
use Rattle.std.specs.List.Sorted.{IsPartitionedBy, IsPartitionPoint}
use Rattle.std.proofs.lemmas.Bool.{cases_lt}
use Rattle.cut_measure.specs.Codes.{code_cmp}
use Rattle.cut_measure.specs.Names.{Name, name_cmp}
use Rattle.shop_records.specs.declared.records.Part.{Part}
use Rattle.shop_records.specs.Columns.{is_there}
use Rattle.shop_records.specs.Content.{is_listed}
use Rattle.shop_records.specs.Lists.{is_after}
use Rattle.shop_records.specs.Same.{same_code}
use Rattle.shop_rows.specs.Keys.{part_key, names_total, names_exact}
use Rattle.shop_rows.specs.Open.{own_key, open_cmp, open_exact, open_key, has, has_key, is_found, finds_with, finds_with_all, names_of, SetsKey, ListsNumbers, ListsParts, ListsOthers, KeepsMaterial, KeepMaterials}
use Rattle.shop_rows.specs.Rows.{entries_of, put_each, rise, row_at, ArePut, IsPut, SetsRow}
use Rattle.shop_rows.specs.declared.names.NameList.{NameList}
use Rattle.shop_rows.specs.declared.names.OpenPart.{OpenPart}
use Rattle.shop_rows.proofs.Places.{rising_at, tested, met}

pub tie : (r : Ordering) → is_eq r ≡ true → r ≡ Equal
tie Less e = absurd (true≢false (sym e))
tie Equal e = refl
tie Greater e = absurd (true≢false (sym e))

-- ---- which keys a list has, where a part takes the place of another

pub code_turned : (a b : List ℕ) → same_code a b ≡ same_code b a
code_turned a b = (eq_by_cmp_equiv nat_list_cmp_total).symm a b

far_code : (a b : Ordering) → is_eq b ≡ true → is_eq (ordering_then a b) ≡ false → is_eq a ≡ false
far_code Less b e apart = refl
far_code Equal b e apart = absurd (true≢false (sym e ∙ apart))
far_code Greater b e apart = refl

far_name : (a b : Ordering) → is_eq b ≡ false → is_eq (ordering_then a b) ≡ false
far_name Less b e = refl
far_name Equal b e = e
far_name Greater b e = refl

module _ (part : Part) (find_part : Name → Option Part) (keys : List NameList) (lists : ListsParts find_part keys) where
  -- a part isn't listed for another material
  not_there : (code : List ℕ) (p : Part) → same_code code p.material ≡ false → is_listed code p ≡ false
  not_there code p apart = ap (λ b. b && is_there p.state) (code_turned p.material code ∙ apart)

  others : (new : List NameList) → ((key : OpenPart) → eq_by_cmp name_cmp key.name part.name ≡ false → has_key key new ≡ has_key key keys)
      → ((key : OpenPart) → key.name ≡ part.name → same_code key.material part.material ≡ false → has_key key new ≡ false)
      → ListsOthers part (finds_with name_cmp part.name part find_part) new
  others new far near key apart = by_name (eq_by_cmp name_cmp key.name part.name) refl
    where
      by_name : (b : Bool) → eq_by_cmp name_cmp key.name part.name ≡ b → has_key key new ≡ is_found (is_listed key.material) (cond b (Some part) (find_part key.name))
      by_name true e =
          let code = far_code (code_cmp key.material part.material) (name_cmp key.name part.name) e apart in
          near key (names_exact key.name part.name (tie _ e)) code ∙ sym (not_there key.material part code)
      by_name false e = far key e ∙ lists key

  found_at : (key : OpenPart) (found : Option Part) → find_part part.name ≡ found → key.name ≡ part.name → has_key key keys ≡ is_found (is_listed key.material) found
  found_at key found is same = lists key ∙ ap (λ n. is_found (is_listed key.material) (find_part n)) same ∙ ap (is_found (is_listed key.material)) is

  -- no part had the name
  pub unlisted_none : find_part part.name ≡ None → ListsOthers part (finds_with name_cmp part.name part find_part) keys
  unlisted_none none = others keys (λ key e. refl) (λ key same code. found_at key None none same)

  -- one of the same material had it
  pub unlisted_same : (old : Part) → find_part part.name ≡ Some old → old.material ≡ part.material → ListsOthers part (finds_with name_cmp part.name part find_part) keys
  unlisted_same old is alike =
      others keys (λ key e. refl) (λ key same code. found_at key (Some old) is same ∙ not_there key.material old (ap (same_code key.material) alike ∙ code))

  -- one of another material had it, and is taken from the list
  pub unlisted_taken : (old : Part) (new : List NameList) → find_part part.name ≡ Some old → SetsKey (record { material = old.material; name = part.name }) false keys new
      → ListsOthers part (finds_with name_cmp part.name part find_part) new
  unlisted_taken old new is taken =
      others new
      (λ key e. taken key ∙ ap (λ b. cond b false (has_key key keys)) (far_name (code_cmp key.material old.material) (name_cmp key.name part.name) e))
      (λ key same code. taken key ∙ by_key key same (eq_by_cmp open_cmp key (record { material = old.material; name = part.name })) refl)
    where
      by_key : (key : OpenPart) → key.name ≡ part.name → (b : Bool) → eq_by_cmp open_cmp key (record { material = old.material; name = part.name }) ≡ b → cond b false (has_key key keys) ≡ false
      by_key key same true e = refl
      by_key key same false e =
          found_at key (Some old) is same
          ∙ not_there key.material old (far_code (code_cmp key.material old.material) (name_cmp key.name part.name) (ap (λ n. is_eq (name_cmp n part.name)) same ∙ ap is_eq (tied_itself names_total part.name)) e)

  -- one of the same material had it, or none
  pub unlisted_kept : KeepsMaterial find_part part → ListsOthers part (finds_with name_cmp part.name part find_part) keys
  unlisted_kept keep = by_found (find_part part.name) refl keep
    where
      by_found : (found : Option Part) → find_part part.name ≡ found → IfSome found (λ old. old.material ≡ part.material) → ListsOthers part (finds_with name_cmp part.name part find_part) keys
      by_found None is alike = unlisted_none is
      by_found (Some old) is alike = unlisted_same old is alike

-- then the part's own key is in the list, or is not
pub listed : (part : Part) (find_part : Name → Option Part) (mid new : List NameList) → ListsOthers part find_part mid → find_part part.name ≡ Some part
    → SetsKey (open_key part) (is_listed part.material part) mid new → ListsParts find_part new
listed part find_part mid new lists is settled key = settled key ∙ by_key (eq_by_cmp open_cmp key (open_key part)) refl
  where
    by_key : (b : Bool) → eq_by_cmp open_cmp key (open_key part) ≡ b → cond b (is_listed part.material part) (has_key key mid) ≡ is_found (is_listed key.material) (find_part key.name)
    by_key true e = ap (is_found (is_listed part.material)) (sym is) ∙ ap (λ (k : OpenPart). is_found (is_listed k.material) (find_part k.name)) (sym (open_exact key (open_key part) (tie _ e)))
    by_key false e = lists key e

pub found_own : (part : Part) (find_part : Name → Option Part) → finds_with name_cmp part.name part find_part part.name ≡ Some part
found_own part find_part = ap (λ r. cond (is_eq r) (Some part) (find_part part.name)) (tied_itself names_total part.name)

-- ---- parts that are put one after another

pub lists_same : (find_part other : Name → Option Part) (keys : List NameList) → ((name : Name) → find_part name ≡ other name) → ListsParts find_part keys → ListsParts other keys
lists_same find_part other keys same lists key = lists key ∙ ap (is_found (is_listed key.material)) (same key.name)

-- lists with the same names
pub still_listed : (find_part : Name → Option Part) (old new : List NameList) → ((code : List ℕ) → names_of code new ≡ names_of code old) → ListsParts find_part old → ListsParts find_part new
still_listed find_part old new same lists key = ap (has name_cmp key.name) (same key.material) ∙ lists key

-- the row among those so far
pub finds_more : {X K : Type 0} (key_of : X → K) (cmp : K → K → Ordering) (rows : List X) (i : ℕ) (row : X) (find_row : K → Option X) → i < length rows → row ≡ get_or rows i row
    → finds_with_all key_of cmp (take (suc i) rows) find_row ≡ finds_with cmp (key_of row) row (finds_with_all key_of cmp (take i rows) find_row)
finds_more key_of cmp [] i row find_row within is = absurd (omega arith)
finds_more key_of cmp (r ∷ rows) zero row find_row within is = ap (λ q. finds_with cmp (key_of q) q find_row) (sym is)
finds_more key_of cmp (r ∷ rows) (suc i) row find_row within is = finds_more key_of cmp rows i row (finds_with cmp (key_of r) r find_row) (omega arith) is

pub keep_at : (parts : List Part) (i : ℕ) (part : Part) (find_part : Name → Option Part) → i < length parts → part ≡ get_or parts i part → KeepMaterials find_part parts
    → KeepsMaterial (finds_with_all part_key name_cmp (take i parts) find_part) part
keep_at [] i part find_part within is keep = absurd (omega arith)
keep_at (p ∷ parts) zero part find_part within is keep = subst (KeepsMaterial find_part) (sym is) keep.0
keep_at (p ∷ parts) (suc i) part find_part within is keep = keep_at parts i part (finds_with name_cmp p.name p find_part) (omega arith) is keep.1

-- parts of one material, where all that they take the place of are of it
pub keep_one : (code : List ℕ) (parts : List Part) (find_part : Name → Option Part) → All (λ part. IfSome (find_part part.name) (λ old. old.material ≡ code)) parts → All (λ part. part.material ≡ code) parts
    → KeepMaterials find_part parts
keep_one code [] find_part before own = tt
keep_one code (p ∷ parts) find_part before own = (
  by_found (find_part p.name) (before 0 p (omega arith)),
  keep_one code parts (finds_with name_cmp p.name p find_part) (λ k d lt. later (get_or parts k d) (before (suc k) d (omega arith))) (λ k d lt. own (suc k) d (omega arith)),
)
  where
    by_found : (found : Option Part) → IfSome found (λ old. old.material ≡ code) → IfSome found (λ old. old.material ≡ p.material)
    by_found None h = h
    by_found (Some old) h = h ∙ sym (own 0 p (omega arith))

    later : (q : Part) → IfSome (find_part q.name) (λ old. old.material ≡ code) → IfSome (finds_with name_cmp p.name p find_part q.name) (λ old. old.material ≡ code)
    later q h = elim (eq_by_cmp name_cmp q.name p.name) as (λ b. IfSome (cond b (Some p) (find_part q.name)) (λ old. old.material ≡ code)) [ true ↦ own 0 p (omega arith) | false ↦ h ]

-- a row that is put is found under its key
pub found_put : (part : Part) (old new : List Part) → IsPut part_key name_cmp part old new → (name : Name)
    → finds_with name_cmp part.name part (λ n. row_at part_key name_cmp n old) name ≡ row_at part_key name_cmp name new
found_put part old new is_put name = sym (ap (find name_cmp name) is_put ∙ find-put name_cmp names_total name part.name part (entries_of part_key name_cmp old))

-- and so is each of those that are put one after another
pub found_put_each : {X K : Type 0} (key_of : X → K) (cmp : K → K → Ordering) → IsTotalOrder cmp → (rows old new : List X) → ArePut key_of cmp rows old new → (key : K)
    → finds_with_all key_of cmp rows (λ q. row_at key_of cmp q old) key ≡ row_at key_of cmp key new
found_put_each {X} {K} key_of cmp o rows old new are_put key = in_turn rows (entries_of key_of cmp old) ∙ sym (ap (find cmp key) are_put)
  where
    in_turn : (xs : List X) (es : List (K × X)) → finds_with_all key_of cmp xs (λ q. find cmp q es) key ≡ find cmp key (put_each key_of cmp xs es)
    in_turn [] es = refl
    in_turn (x ∷ xs) es = ap (λ f. finds_with_all key_of cmp xs f key) (λ i q. sym (find-put cmp o q (key_of x) x es) i) ∙ in_turn xs (put cmp (key_of x) x es)

-- ---- numbers

pub numbers_same : {X : Type 0} (test : X → Bool) (find_row other : ℕ → Option X) (keys : List ℕ) → ((number : ℕ) → find_row number ≡ other number) → ListsNumbers test find_row keys → ListsNumbers test other keys
numbers_same test find_row other keys same lists number = lists number ∙ ap (is_found test) (same number)

-- a row's own number is in the list, or is not
pub numbers_settled : {X : Type 0} (test : X → Bool) (find_row : ℕ → Option X) (number : ℕ) (row : X) (keys new : List ℕ) → ListsNumbers test find_row keys → SetsRow own_key nat_cmp number (test row) keys new
    → ListsNumbers test (finds_with nat_cmp number row find_row) new
numbers_settled test find_row number row keys new lists settled other =
    settled other
    ∙ elim (eq_by_cmp nat_cmp other number) as (λ b. cond b (test row) (has nat_cmp other keys) ≡ is_found test (cond b (Some row) (find_row other))) [ true ↦ refl | false ↦ lists other ]

-- ---- runs

module _ {X : Type 0} (p : X → Bool) where
  pub point_prefix : (xs : List X) (i : ℕ) → i ≤ length xs → IsPartitionPoint (λ y. p y ≡ true) (λ y. p y ≡ false) xs i → filter p xs ≡ take i xs
  point_prefix [] zero within point = refl
  point_prefix [] (suc i) within point = refl
  point_prefix (x ∷ xs) zero within point =
      ap (λ b. cond b (x ∷ filter p xs) (filter p xs)) (point.1 0 x (omega arith) (omega arith))
      ∙ point_prefix xs zero (omega arith) (λ k d le lt. absurd (omega arith), λ k d le lt. point.1 (suc k) d (omega arith) (omega arith))
  point_prefix (x ∷ xs) (suc i) within point =
      ap (λ b. cond b (x ∷ filter p xs) (filter p xs)) (point.0 0 x (omega arith) (omega arith))
      ∙ ap (λ ys. x ∷ ys) (point_prefix xs i (omega arith) (λ k d le lt. point.0 (suc k) d (omega arith) (omega arith), λ k d le lt. point.1 (suc k) d (omega arith) (omega arith)))

  pub point_back : (xs : List X) (i : ℕ) → i ≤ length xs → IsPartitionPoint (λ y. p y ≡ true) (λ y. p y ≡ false) xs i → filter (λ y. not (p y)) xs ≡ drop i xs
  point_back [] zero within point = refl
  point_back [] (suc i) within point = refl
  point_back (x ∷ xs) zero within point =
      ap (λ b. cond (not b) (x ∷ filter (λ y. not (p y)) xs) (filter (λ y. not (p y)) xs)) (point.1 0 x (omega arith) (omega arith))
      ∙ ap (λ ys. x ∷ ys) (point_back xs zero (omega arith) (λ k d le lt. absurd (omega arith), λ k d le lt. point.1 (suc k) d (omega arith) (omega arith)))
  point_back (x ∷ xs) (suc i) within point =
      ap (λ b. cond (not b) (x ∷ filter (λ y. not (p y)) xs) (filter (λ y. not (p y)) xs)) (point.0 0 x (omega arith) (omega arith))
      ∙ point_back xs i (omega arith) (λ k d le lt. point.0 (suc k) d (omega arith) (omega arith), λ k d le lt. point.1 (suc k) d (omega arith) (omega arith))

  pub filter_filter : (q : X → Bool) (xs : List X) → filter q (filter p xs) ≡ filter (λ x. p x && q x) xs
  filter_filter q [] = refl
  filter_filter q (x ∷ xs) =
      elim (p x) as (λ b. filter q (cond b (x ∷ filter p xs) (filter p xs)) ≡ cond (b && q x) (x ∷ filter (λ y. p y && q y) xs) (filter (λ y. p y && q y) xs)) [
        | true ↦ ap (λ ys. cond (q x) (x ∷ ys) ys) (filter_filter q xs)
        | false ↦ filter_filter q xs
      ]

module _ {X K : Type 0} (key_of : X → K) (cmp : K → K → Ordering) where
  pub entries_filter : (p : K → Bool) (rows : List X) → entries_of key_of cmp (filter (λ row. p (key_of row)) rows) ≡ where_key cmp p (entries_of key_of cmp rows)
  entries_filter p [] = refl
  entries_filter p (r ∷ rows) =
      elim (p (key_of r)) as (λ b. entries_of key_of cmp (cond b (r ∷ filter (λ row. p (key_of row)) rows) (filter (λ row. p (key_of row)) rows)) ≡ cond b ((key_of r, r) ∷ where_key cmp p (entries_of key_of cmp rows)) (where_key cmp p (entries_of key_of cmp rows))) [
        | true ↦ ap (λ es. (key_of r, r) ∷ es) (entries_filter p rows)
        | false ↦ entries_filter p rows
      ]

  pub rise-filter : (p : K → Bool) (rows : List X) → rise key_of cmp rows ≡ true → rise key_of cmp (filter (λ row. p (key_of row)) rows) ≡ true
  rise-filter p rows up = ap (is_sorted cmp) (entries_filter p rows) ∙ met _ (is_sorted-where_key cmp p (entries_of key_of cmp rows) (tested _ up))

  -- a test that no key passes after one that fails
  pub parted : IsTotalOrder cmp → IsAntisymmetric cmp → (p : K → Bool) → ((a b : K) → cmp a b ≡ Less → p b ≡ true → p a ≡ true) → (rows : List X) → rise key_of cmp rows ≡ true → IsPartitionedBy (λ row. p (key_of row)) rows
  parted o exact p falls rows up i j d le within passes =
      elim (cases_lt i j) [
        | inl lt ↦ falls (key_of (get_or rows i d)) (key_of (get_or rows j d)) (rising_at key_of cmp o exact rows (tested _ up) i j d lt within) passes
        | inr ge ↦ let same : i ≡ j = omega arith in subst (λ n. p (key_of (get_or rows n d)) ≡ true) (sym same) passes
      ]

-- what comes before a name that is not after another isn't after it either
pub upto_name : (after b c : Name) → name_cmp b c ≡ Less → not (is_lt (name_cmp after c)) ≡ true → not (is_lt (name_cmp after b)) ≡ true
upto_name after b c lt passes = by_order (name_cmp after b) refl
  where
    by_order : (r : Ordering) → name_cmp after b ≡ r → not (is_lt r) ≡ true
    by_order Less e = absurd (true≢false (sym passes ∙ ap (λ r. not (is_lt r)) (names_total.trans after b c e lt)))
    by_order Equal e = refl
    by_order Greater e = refl

pub all_after : (names : List Name) → names ≡ filter (is_after None) names
all_after [] = refl
all_after (n ∷ names) = ap (λ ns. n ∷ ns) (all_after names)

pub after_names : (after : Name) (names : List Name) → filter (λ name. not (not (is_lt (name_cmp after name)))) names ≡ filter (is_after (Some after)) names
after_names after [] = refl
after_names after (n ∷ names) = λ i. cond (twice (is_lt (name_cmp after n)) i) (n ∷ after_names after names i) (after_names after names i)
  where
    twice : (b : Bool) → not (not b) ≡ b
    twice true = refl
    twice false = refl

-- ---- runs of numbers

pub below_number : (from a b : ℕ) → nat_cmp a b ≡ Less → ltb b from ≡ true → ltb a from ≡ true
below_number from a b lt passes = let less : a < b = ranked a b Less (sym lt) in let most = ltb-true b from passes in lt-ltb a from (omega arith)

-- what isn't below a number is that number or a greater one
pub not_below : (from n : ℕ) → not (ltb n from) ≡ leb from n
not_below from n = by_tests (ltb n from) (leb from n) refl refl
  where
    by_tests : (a b : Bool) → ltb n from ≡ a → leb from n ≡ b → not a ≡ b
    by_tests true true e f = absurd (let less = ltb-true n from e in let most = leb-true from n f in omega arith)
    by_tests true false e f = refl
    by_tests false true e f = refl
    by_tests false false e f = absurd (let more = ltb-false n from e in let less = leb-false from n f in omega arith)

pub upto_number : (after a b : ℕ) → nat_cmp a b ≡ Less → leb b after ≡ true → leb a after ≡ true
upto_number after a b lt passes = let less : a < b = ranked a b Less (sym lt) in let most = leb-true b after passes in le-leb a after (omega arith)

pub after_number : (after : ℕ) (keys : List ℕ) → filter (λ n. not (leb n after)) keys ≡ filter (nat_lt after) keys
after_number after [] = refl
after_number after (k ∷ keys) =
    (λ i. cond (turned k i) (k ∷ after_number after keys i) (after_number after keys i))
  where
    above : (n : ℕ) (a b : Bool) → leb n after ≡ a → ltb after n ≡ b → not a ≡ b
    above n true true e f = absurd (let most = leb-true n after e in let more = ltb-true after n f in omega arith)
    above n true false e f = refl
    above n false true e f = refl
    above n false false e f = absurd (let more = leb-false n after e in let most = ltb-false after n f in omega arith)

    turned : (n : ℕ) → not (leb n after) ≡ ltb after n
    turned n = above n (leb n after) (ltb after n) refl refl
