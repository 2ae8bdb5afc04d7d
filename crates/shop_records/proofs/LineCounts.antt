-- The lines of an order are as many as its demands, and the last line of both is the same.
use Rattle.std.proofs.Common.{◌≡◌, ℕ, zero, suc, ◌+◌, ◌≤◌, ◌<◌, inl, inr, List, [], ◌∷◌, ◌++◌, length, length-append, map, Bool, true, false, refl, sym, ap, subst, ◌∙◌, arith, cond}
use Rattle.std.proofs.Math.Nat.{le-max_left, le-max_right, max-le}
use Rattle.std.proofs.lemmas.List.Elements.{All-filter, filter_passes}
use Rattle.std.specs.Prelude.{Some, None, T, All, filter, if◌then◌else◌, ◌⊎◌, max}
use Rattle.std.specs.declared.cmp.Ordering.TheVariants.{Less, Equal, Greater}
use Rattle.std.specs.declared.cmp.Ordering.{Ordering}
use Rattle.std.specs.Ordering.{is_eq, nat_cmp}
use Rattle.std.specs.Cmp.{nat_cmp_total}
use Rattle.std.specs.FinMap.{FinMap, nat_cmp-IsAntisymmetric, entries, entries_sorted, find, get, get-entries, is_sorted, values}
use Rattle.std.specs.FinMap.Entries.{below_all}
use Rattle.cut_measure.specs.Codes.{code_cmp}
use Rattle.shop_records.specs.declared.records.Demand.{Demand}
use Rattle.shop_records.specs.Content.{Content, demand_at, demands_of, last_line}
use Rattle.shop_records.specs.Elements.{IsIn}
use Rattle.shop_records.specs.Lists.{AreLines}
use Rattle.shop_records.proofs.Basics.{all_in, codes_same, codes_total, in_append, in_first, in_later, none_some, same_some, tied, untied}
use Rattle.shop_records.proofs.Puts.{Pairwise, all_from, pairs_in, pairs_more, equal, not_both}
use Rattle.shop_records.proofs.Sums.{first, second, less}

-- ---- rows that pass a test

pub passed : {X : Type 0} (p : X → Bool) (xs : List X) (x : X) → IsIn x (filter p xs) → IsIn x xs × (p x ≡ true)
passed {X} p xs x i = (
  all_in (λ (y : X). IsIn y xs) (filter p xs) (All-filter p (λ (y : X). IsIn y xs) xs (all_from (λ (y : X). IsIn y xs) xs (λ y j. j))) x i,
  all_in (λ (y : X). p y ≡ true) (filter p xs) (filter_passes p xs) x i,
)

pub passes : {X : Type 0} (p : X → Bool) (xs : List X) (x : X) → IsIn x xs → p x ≡ true → IsIn x (filter p xs)
passes p [] x i e = absurd i
passes {X} p (y ∷ ys) x (inl is) e =
    subst (λ (b : Bool). IsIn x (if b then y ∷ filter p ys else filter p ys)) (sym (ap p (sym is) ∙ e)) (inl is)
passes {X} p (y ∷ ys) x (inr i) e = by (p y) (passes p ys x i e)
  where
    by : (b : Bool) → IsIn x (filter p ys) → IsIn x (if b then y ∷ filter p ys else filter p ys)
    by true j = inr j
    by false j = j

pairs_passed : {X : Type 0} (R : X → X → Type 0) (p : X → Bool) (xs : List X) → Pairwise R xs → Pairwise R (filter p xs)
pairs_passed R p [] h = tt
pairs_passed {X} R p (x ∷ xs) h = by (p x) (pairs_passed R p xs h.1)
  where
    by : (b : Bool) → Pairwise R (filter p xs) → Pairwise R (if b then x ∷ filter p xs else filter p xs)
    by true rest = (λ y i. h.0 y (passed p xs y i).0, rest)
    by false rest = rest

-- ---- lists of the same rows, none of them twice

abbrev IsOnce : {X : Type 0} → List X → Type 0
IsOnce {X} xs = Pairwise (λ (a b : X). a ≡ b → ⊥) xs

-- a list around one of its rows
record IsAround {X : Type 0} (x : X) (xs : List X) : Type 0 where
  before : List X
  after : List X
  is : xs ≡ before ++ x ∷ after

around : {X : Type 0} (x : X) (xs : List X) → IsIn x xs → IsAround x xs
around x [] i = absurd i
around x (y ∷ ys) (inl e) = record { before = []; after = ys; is = ap (λ z. z ∷ ys) (sym e) }
around x (y ∷ ys) (inr i) = let a = around x ys i in record { before = y ∷ a.before; after = a.after; is = ap (λ zs. y ∷ zs) a.is }

in_others : {X : Type 0} (x z : X) (before after : List X) → IsIn z (before ++ x ∷ after) → (x ≡ z → ⊥) → IsIn z (before ++ after)
in_others x z before after i apart =
    elim (in_append z before (x ∷ after) i) [
      | inl j ↦ in_first z before after j
      | inr j ↦ elim j [ inl e ↦ absurd (apart (sym e)) | inr k ↦ in_later z before after k ]
    ]

no_longer : {X : Type 0} (xs ys : List X) → IsOnce xs → ((x : X) → IsIn x xs → IsIn x ys) → length xs ≤ length ys
no_longer [] ys once all = omega arith
no_longer {X} (x ∷ xs) ys once all =
    let a = around x ys (all x (inl refl)) in
    let rest = no_longer xs (a.before ++ a.after) once.1
    (λ z i. in_others x z a.before a.after (subst (λ (zs : List X). IsIn z zs) a.is (all z (inr i))) (once.0 z i)) in
    let whole : length ys ≡ length (a.before ++ x ∷ a.after) = ap length a.is in
    let one = length-append a.before (x ∷ a.after) in
    let other = length-append a.before a.after in
    omega (arith, rest, whole, one, other)

-- ---- rows of a map

module _ (m : FinMap nat_cmp Demand) (own : (n : ℕ) (d : Demand) → get m n ≡ Some d → d.number ≡ n) where
  found_among : (n : ℕ) (d : Demand) (es : List (ℕ × Demand)) → find nat_cmp n es ≡ Some d → IsIn d (map (λ (e : ℕ × Demand). e.1) es)
  found_among n d [] is = absurd (none_some d is)
  found_among n d (e ∷ es) is = by (found_among n d es) (is_eq (nat_cmp n e.0)) refl
    where
      by : (find nat_cmp n es ≡ Some d → IsIn d (map (λ (f : ℕ × Demand). f.1) es)) → (b : Bool) → is_eq (nat_cmp n e.0) ≡ b → IsIn d (map (λ (f : ℕ × Demand). f.1) (e ∷ es))
      by rest true y = inl (same_some d e.1 (sym is ∙ ap (λ b. cond b (Some e.1) (find nat_cmp n es)) y))
      by rest false y = inr (rest (sym (ap (λ b. cond b (Some e.1) (find nat_cmp n es)) y) ∙ is))

  pub value_of : (n : ℕ) (d : Demand) → get m n ≡ Some d → IsIn d (values m)
  value_of n d is = found_among n d (entries m) (sym (get-entries m n) ∙ is)

  -- each entry is found by its key, and the values have their own keys' numbers, so that none is there twice
  record AreEntriesOf (es : List (ℕ × Demand)) : Type 0 where
    each : (d : Demand) → IsIn d (map (λ (e : ℕ × Demand). e.1) es) → find nat_cmp d.number es ≡ Some d
    once : IsOnce (map (λ (e : ℕ × Demand). e.1) es)

  none_after : (n : ℕ) (es : List (ℕ × Demand)) → T (below_all nat_cmp n es) → find nat_cmp n es ≡ None
  none_after n [] h = refl
  none_after n (e ∷ es) h =
      ap (λ r. cond (is_eq r) (Some e.1) (find nat_cmp n es)) (less (nat_cmp n e.0) (first _ _ h)) ∙ none_after n es (second _ _ h)

  module _ (e : ℕ × Demand) (es : List (ℕ × Demand)) (sorted : T (is_sorted nat_cmp (e ∷ es))) where
    not_first : (n : ℕ) (d : Demand) → find nat_cmp n es ≡ Some d → n ≡ e.0 → ⊥
    not_first n d is same =
        not_both (find nat_cmp e.0 es) d (none_after e.0 es (first (below_all nat_cmp e.0 es) (is_sorted nat_cmp es) sorted))
        (ap (λ k. find nat_cmp k es) (sym same) ∙ is)

    later : (n : ℕ) (d : Demand) → find nat_cmp n es ≡ Some d → find nat_cmp n (e ∷ es) ≡ Some d
    later n d is = ap (λ b. cond b (Some e.1) (find nat_cmp n es)) (untied nat_cmp_total nat_cmp-IsAntisymmetric n e.0 (not_first n d is)) ∙ is

    here : find nat_cmp e.0 (e ∷ es) ≡ Some e.1
    here = ap (λ b. cond b (Some e.1) (find nat_cmp e.0 es)) (tied nat_cmp_total nat_cmp-IsAntisymmetric e.0 e.0 refl)

    one_more : e.1.number ≡ e.0 → AreEntriesOf es → AreEntriesOf (e ∷ es)
    one_more mine rest = record {
      each = λ d i. elim i [
        | inl is ↦ ap (λ n. find nat_cmp n (e ∷ es)) (ap (λ (x : Demand). x.number) is ∙ mine) ∙ here ∙ ap Some (sym is)
        | inr j ↦ later d.number d (rest.each d j)
      ];
      once = (λ d j same. not_first d.number d (rest.each d j) (ap (λ (x : Demand). x.number) (sym same) ∙ mine), rest.once);
    }

  entries_of : (es : List (ℕ × Demand)) → T (is_sorted nat_cmp es) → ((n : ℕ) (d : Demand) → find nat_cmp n es ≡ Some d → d.number ≡ n) → AreEntriesOf es
  entries_of [] sorted own = record { each = λ d i. absurd i; once = tt }
  entries_of (e ∷ es) sorted own =
      one_more e es sorted (own e.0 e.1 (here e es sorted))
      (entries_of es (second (below_all nat_cmp e.0 es) (is_sorted nat_cmp es) sorted) (λ n d is. own n d (later e es sorted n d is)))

  all_entries : AreEntriesOf (entries m)
  all_entries = entries_of (entries m) (entries_sorted m) (λ n d is. own n d (get-entries m n ∙ is))

  pub of_value : (d : Demand) → IsIn d (values m) → get m d.number ≡ Some d
  of_value d i = get-entries m d.number ∙ all_entries.each d i

  pub values_once : IsOnce (values m)
  values_once = all_entries.once

-- ---- the lines of an order

pub below_last : (ds : List Demand) (d : Demand) → IsIn d ds → d.line ≤ last_line ds
below_last [] d i = absurd i
below_last (e ∷ ds) d (inl is) =
    let same : d.line ≡ e.line = ap (λ (x : Demand). x.line) is in
    let least : e.line ≤ max e.line (last_line ds) = le-max_left e.line (last_line ds) in
    omega (arith, same, least)
below_last (e ∷ ds) d (inr i) =
    let rest = below_last ds d i in
    let least : last_line ds ≤ max e.line (last_line ds) = le-max_right e.line (last_line ds) in
    omega (arith, rest, least)

last_below : (ds : List Demand) (n : ℕ) → ((d : Demand) → IsIn d ds → d.line ≤ n) → last_line ds ≤ n
last_below [] n h = omega arith
last_below (d ∷ ds) n h = max-le (h d (inl refl)) (last_below ds n (λ e i. h e (inr i)))

module _ (content : Content) (own : (n : ℕ) (d : Demand) → demand_at content n ≡ Some d → d.number ≡ n) (order : List ℕ) (rows : List Demand) (lines : AreLines content order rows) where
  abbrev demands : List Demand
  demands = demands_of content order

  to_rows : (d : Demand) → IsIn d demands → IsIn d rows
  to_rows d i =
      let is = passed (λ (x : Demand). is_eq (code_cmp x.order order)) (values content.demands) d i in
      lines.all d.number d (of_value content.demands own d is.0) (codes_same d.order order (equal (code_cmp d.order order) is.1))

  to_demands : (d : Demand) → IsIn d rows → IsIn d demands
  to_demands d i =
      let is = all_in (λ (row : Demand). (demand_at content row.number ≡ Some row) × (row.order ≡ order)) rows lines.there d i in
      passes (λ (x : Demand). is_eq (code_cmp x.order order)) (values content.demands) d (value_of content.demands own d.number d is.0) (tied codes_total codes_same d.order order is.1)

  unlike : (a b : Demand) → a.line < b.line → a ≡ b → ⊥
  unlike a b before same = let equal : a.line ≡ b.line = ap (λ (x : Demand). x.line) same in omega (arith, before, equal)

  -- as many lines as demands
  pub same_count : length demands ≡ length rows
  same_count =
      let once = pairs_passed (λ (a b : Demand). a ≡ b → ⊥) (λ (x : Demand). is_eq (code_cmp x.order order)) (values content.demands) (values_once content.demands own) in
      let apart = pairs_more (λ (a b : Demand). a.line < b.line) (λ (a b : Demand). a ≡ b → ⊥) unlike rows (pairs_in (λ (a b : Demand). a.line < b.line) rows lines.rising) in
      let least = no_longer demands rows once to_rows in
      let most = no_longer rows demands apart to_demands in
      omega (arith, least, most)

  -- and the same last one
  pub same_last : last_line demands ≡ last_line rows
  same_last =
      let least = last_below demands (last_line rows) (λ d i. below_last rows d (to_rows d i)) in
      let most = last_below rows (last_line demands) (λ d i. below_last demands d (to_demands d i)) in
      omega (arith, least, most)
