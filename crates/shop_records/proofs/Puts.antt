-- Rows that are put into a map one after another: what is found afterwards, and sums over the values.
use Rattle.std.proofs.Common.{true≢false, ◌≡◌, ℕ, zero, suc, ◌+◌, ◌≤◌, ◌⊎◌, inl, inr, List, [], ◌∷◌, map, Bool, true, false, refl, sym, ap, subst, ◌∙◌, arith}
use Rattle.std.specs.Prelude.{Option, Some, None, T, All, AllPairs, sum_by, count_by, cond, if◌then◌else◌, IsSome, is_some}
use Rattle.std.specs.declared.cmp.Ordering.{Ordering}
use Rattle.std.specs.declared.cmp.Ordering.TheVariants.{Less, Equal, Greater}
use Rattle.std.specs.Ordering.{is_eq, eq_by_cmp, nat_cmp}
use Rattle.std.specs.Cmp.{tied_itself, IsTotalOrder, on_total, then_total, nat_cmp_total}
use Rattle.std.specs.FinMap.{FinMap, IsAntisymmetric, nat_cmp-IsAntisymmetric, entries, entries_sorted, get, get-insert, get-entries, insert, values, find, is_sorted}
use Rattle.std.specs.FinMap.Entries.{below_all}
use Rattle.std.proofs.lemmas.List.Elements.{All-cons, All-nil}
use Rattle.std.proofs.lemmas.List.Sums.{sum_by-cons}
use Rattle.cut_measure.specs.Names.{Name, name_cmp}
use Rattle.shop_records.specs.declared.records.Part.{Part}
use Rattle.shop_records.specs.Content.{of_found, message_id_cmp, with_parts}
use Rattle.shop_records.specs.Elements.{IsIn}
use Rattle.shop_records.proofs.Basics.{all_in, in_map, then_equal, names_total, names_same, same_some, tied, get_other, with_rows, parts_as_rows, put_cases}
use Rattle.shop_records.proofs.Sums.{sum-insert, first, second, less}

-- ---- elements of lists

pub all_from : {X : Type 0} (P : X → Type 0) (xs : List X) → ((x : X) → IsIn x xs → P x) → All P xs
all_from P [] h = All-nil P
all_from P (y ∷ ys) h = All-cons P y ys (h y (inl refl)) (all_from P ys (λ x i. h x (inr i)))

-- R holds of each element and each later one
abbrev pub Pairwise : {X : Type 0} → (X → X → Type 0) → List X → Type 0
Pairwise R [] = Unit {0}
Pairwise R (x ∷ xs) = ((y : _) → IsIn y xs → R x y) × Pairwise R xs

pub pairs_in : {X : Type 0} (R : X → X → Type 0) (xs : List X) → AllPairs R xs → Pairwise R xs
pairs_in R [] all = tt
pairs_in R (x ∷ xs) all =
    (all_in (R x) xs (λ k d l. all 0 (suc k) d (omega arith) (omega arith)), pairs_in R xs (λ i j d l m. all (suc i) (suc j) d (omega arith) (omega arith)))

pub pairs_from : {X : Type 0} (R : X → X → Type 0) (xs : List X) → Pairwise R xs → AllPairs R xs
pairs_from R [] h i j d l m = absurd (omega arith)
pairs_from R (x ∷ xs) h zero zero d l m = absurd (omega arith)
pairs_from R (x ∷ xs) h zero (suc j) d l m = all_from (R x) xs h.0 j d (omega arith)
pairs_from R (x ∷ xs) h (suc i) zero d l m = absurd (omega arith)
pairs_from R (x ∷ xs) h (suc i) (suc j) d l m = pairs_from R xs h.1 i j d (omega arith) (omega arith)

pub pairs_more : {X : Type 0} (R S : X → X → Type 0) → ((x y : X) → R x y → S x y) → (xs : List X) → Pairwise R xs → Pairwise S xs
pairs_more R S f [] h = tt
pairs_more R S f (x ∷ xs) h = (λ y i. f x y (h.0 y i), pairs_more R S f xs h.1)

pub map_pairs : {X Y : Type 0} (R : X → X → Type 0) (f : Y → X) (ys : List Y) → Pairwise (λ a b. R (f a) (f b)) ys → Pairwise R (map f ys)
map_pairs R f [] h = tt
map_pairs R f (y ∷ ys) h = (λ x i. let r = in_map f ys x i in subst (R (f y)) (sym r.2) (h.0 r.0 r.1), map_pairs R f ys h.1)

-- ---- sums over lists

pub sum_map : {X Y : Type 0} (f : X → ℕ) (g : Y → X) (ys : List Y) → sum_by f (map g ys) ≡ sum_by (λ y. f (g y)) ys
sum_map f g [] = refl
sum_map f g (y ∷ ys) = omega (arith, sum_by-cons f (g y) (map g ys), sum_by-cons (λ y. f (g y)) y ys, sum_map f g ys)

pub sum_as : {X : Type 0} (f g : X → ℕ) (xs : List X) → ((x : X) → IsIn x xs → f x ≡ g x) → sum_by f xs ≡ sum_by g xs
sum_as f g [] h = refl
sum_as f g (x ∷ xs) h =
    let here = h x (inl refl) in
    omega (arith, sum_by-cons f x xs, sum_by-cons g x xs, here, sum_as f g xs (λ y i. h y (inr i)))

sum_of_none : {X : Type 0} (xs : List X) → sum_by (λ x. 0) xs ≡ 0
sum_of_none [] = refl
sum_of_none (x ∷ xs) = omega (arith, sum_by-cons (λ x. 0) x xs, sum_of_none xs)

pub sum_none : {X : Type 0} (f : X → ℕ) (xs : List X) → ((x : X) → IsIn x xs → f x ≡ 0) → sum_by f xs ≡ 0
sum_none f xs h = sum_as f (λ x. 0) xs h ∙ sum_of_none xs

in_sum : {X : Type 0} (f : X → ℕ) (xs : List X) (x : X) → IsIn x xs → f x ≤ sum_by f xs
in_sum f [] x i = absurd i
in_sum f (y ∷ ys) x (inl e) = let same : f x ≡ f y = ap f e in omega (arith, sum_by-cons f y ys, same)
in_sum f (y ∷ ys) x (inr i) = let more = in_sum f ys x i in omega (arith, sum_by-cons f y ys, more)

-- what is counted is there
pub counted_in : {X : Type 0} (p : X → Bool) (xs : List X) → 1 ≤ count_by p xs → (x : X) × IsIn x xs × (p x ≡ true)
counted_in p [] h = absurd (omega arith)
counted_in {X} p (x ∷ xs) h = by (counted_in p xs) (p x) refl
  where
    by : (1 ≤ count_by p xs → (y : X) × IsIn y xs × (p y ≡ true)) → (b : Bool) → p x ≡ b → (y : X) × IsIn y (x ∷ xs) × (p y ≡ true)
    by rest true e = (x, inl refl, e)
    by rest false e =
        let none : ◌≡◌ {A = ℕ} (if p x then 1 else 0) 0 = ap {B = ℕ} (λ b. if b then 1 else 0) e in
        let r = rest (omega (arith, sum_by-cons (λ x. if p x then 1 else 0) x xs, none, h)) in (r.0, inr r.1, r.2)

pub in_counted : {X : Type 0} (p : X → Bool) (xs : List X) (x : X) → IsIn x xs → p x ≡ true → 1 ≤ count_by p xs
in_counted p xs x i e =
    let one : ◌≡◌ {A = ℕ} (if p x then 1 else 0) 1 = ap {B = ℕ} (λ b. if b then 1 else 0) e in
    let most = in_sum (λ x. if p x then 1 else 0) xs x i in
    omega (arith, one, most)

-- ---- orders in which only equal keys tie

pub equal : (o : Ordering) → is_eq o ≡ true → o ≡ Equal
equal Less e = cc
equal Equal e = refl
equal Greater e = cc

pub message_ids_total : IsTotalOrder message_id_cmp
message_ids_total = then_total (on_total (λ p. p.terminal) nat_cmp_total) (on_total (λ p. p.number) nat_cmp_total)

pub message_ids_exact : IsAntisymmetric message_id_cmp
message_ids_exact a b e =
    let both = then_equal (nat_cmp a.terminal b.terminal) (nat_cmp a.number b.number) e in
    λ i. record { terminal = nat_cmp-IsAntisymmetric a.terminal b.terminal both.0 i; number = nat_cmp-IsAntisymmetric a.number b.number both.1 i }

pub not_both : {X : Type 0} (o : Option X) (x : X) → o ≡ None → o ≡ Some x → ⊥
not_both None x e f = cc
not_both (Some y) x e f = cc

pub some_known : {X : Type 0} (o : Option X) → IsSome o → (x : X) × (o ≡ Some x)
some_known None h = absurd (cc)
some_known (Some x) h = (x, refl)

pub is_known : {X : Type 0} (o : Option X) (x : X) → o ≡ Some x → IsSome o
is_known o x e = ap is_some e

-- ---- a row that is put, and rows

module _ {K X : Type 0} {R : K → K → Ordering} (o : IsTotalOrder R) (exact : IsAntisymmetric R) where
  -- what was found before a new row was put
  pub still_there : (m : FinMap R X) (k : K) (v : X) (q : K) (x : X) → get m k ≡ None → get m q ≡ Some x → get (insert m k v) q ≡ Some x
  still_there m k v q x none is = get_other o exact m k v q (λ e. not_both (get m q) x (ap (λ n. get m n) e ∙ none) is) ∙ is

  -- what is found after a row was put
  pub found_one : (m : FinMap R X) (k : K) (v : X) (q : K) (x : X) → get (insert m k v) q ≡ Some x
      → ((q ≡ k) × (x ≡ v)) ⊎ ((q ≡ k → ⊥) × (get m q ≡ Some x))
  found_one m k v q x is = by (eq_by_cmp R q k) refl
    where
      by : (b : Bool) → eq_by_cmp R q k ≡ b → ((q ≡ k) × (x ≡ v)) ⊎ ((q ≡ k → ⊥) × (get m q ≡ Some x))
      by true e =
          inl (exact q k (equal (R q k) e), same_some x v (sym is ∙ get-insert o m k v q ∙ ap (λ b. cond b (Some v) (get m q)) e))
      by false e =
          inr (λ same. absurd (true≢false (sym (tied o exact q k same) ∙ e)), sym (ap (λ b. cond b (Some v) (get m q)) e) ∙ sym (get-insert o m k v q) ∙ is)

  find_first : (e : K × X) (es : List (K × X)) → find R e.0 (e ∷ es) ≡ Some e.1
  find_first e es = ap (λ r. cond (is_eq r) (Some e.1) (find R e.0 es)) (tied_itself o e.0)

  none_after : (k : K) (es : List (K × X)) → T (below_all R k es) → find R k es ≡ None
  none_after k [] h = refl
  none_after k (e ∷ es) h =
      ap (λ r. cond (is_eq r) (Some e.1) (find R k es)) (less (R k e.0) (first _ _ h)) ∙ none_after k es (second _ _ h)

  sum_entries : (f : X → ℕ) (es : List (K × X)) → T (is_sorted R es) → ((k : K) (v : X) → find R k es ≡ Some v → f v ≡ 0) → sum_by f (map (λ e. e.1) es) ≡ 0
  sum_entries f [] s h = refl
  sum_entries f (e ∷ es) s h =
      let here : f e.1 ≡ 0 = h e.0 e.1 (find_first e es) in
      let sorted : T (is_sorted R es) = second (below_all R e.0 es) (is_sorted R es) s in
      let rest : sum_by f (map (λ e. e.1) es) ≡ 0 = sum_entries f es sorted (λ k v is. h k v (later k v is (R k e.0) refl)) in
      omega (arith, sum_by-cons f e.1 (map (λ e. e.1) es), here, rest)
    where
      later : (k : K) (v : X) → find R k es ≡ Some v → (r : Ordering) → R k e.0 ≡ r → find R k (e ∷ es) ≡ Some v
      later k v is Less p = ap (λ r. cond (is_eq r) (Some e.1) (find R k es)) p ∙ is
      later k v is Equal p =
          absurd (not_both (find R k es) v (subst (λ q. find R q es ≡ None) (sym (exact k e.0 p)) (none_after e.0 es (first (below_all R e.0 es) (is_sorted R es) s))) is)
      later k v is Greater p = ap (λ r. cond (is_eq r) (Some e.1) (find R k es)) p ∙ is

  -- where f is 0 of each row, the sum is 0
  pub sum_no_rows : (f : X → ℕ) (m : FinMap R X) → ((k : K) (v : X) → get m k ≡ Some v → f v ≡ 0) → sum_by f (values m) ≡ 0
  sum_no_rows f m h = sum_entries f (entries m) (entries_sorted m) (λ k v is. h k v (get-entries m k ∙ is))

  -- the sum after one row took another's place
  pub sum_over : (f : X → ℕ) (m : FinMap R X) (k : K) (old v : X) → get m k ≡ Some old → sum_by f (values (insert m k v)) + f old ≡ sum_by f (values m) + f v
  sum_over f m k old v is = ap (λ r. sum_by f (values (insert m k v)) + of_found f r) (sym is) ∙ sum-insert o f m k v

  pub sum_new : (f : X → ℕ) (m : FinMap R X) (k : K) (v : X) → get m k ≡ None → sum_by f (values (insert m k v)) ≡ sum_by f (values m) + f v
  sum_new f m k v is =
      let none : of_found f (get m k) ≡ 0 = ap (of_found f) is in omega (arith, none, sum-insert o f m k v)

  module _ (key : X → K) where
    -- the sum after new rows were put
    sum_rows : (f : X → ℕ) (xs : List X) (m : FinMap R X) → Pairwise (λ x y. key x ≡ key y → ⊥) xs → ((x : X) → IsIn x xs → get m (key x) ≡ None)
        → sum_by f (values (with_rows key xs m)) ≡ sum_by f (values m) + sum_by f xs
    sum_rows f [] m d new = omega arith
    sum_rows f (x ∷ xs) m d new =
        let one = sum_new f m (key x) x (new x (inl refl)) in
        let rest = sum_rows f xs (insert m (key x) x) d.1 (λ y i. get_other o exact m (key x) x (key y) (λ e. d.0 y i (sym e)) ∙ new y (inr i)) in
        omega (arith, one, rest, sum_by-cons f x xs)

-- a name that no row has is found as before
pub put_other : (ps : List Part) (m : FinMap name_cmp Part) (name : Name) → ((p : Part) → IsIn p ps → p.name ≡ name → ⊥) → get (with_parts ps m) name ≡ get m name
put_other ps m name h = elim (put_cases ps m name) [ inl p ↦ absurd (h p.0 p.1 p.2) | inr q ↦ q.1 ]

-- the sum after parts with new names were put
pub sum_parts : (f : Part → ℕ) (ps : List Part) (m : FinMap name_cmp Part) → Pairwise (λ (x y : Part). x.name ≡ y.name → ⊥) ps → ((p : Part) → IsIn p ps → get m p.name ≡ None)
    → sum_by f (values (with_parts ps m)) ≡ sum_by f (values m) + sum_by f ps
sum_parts f ps m apart new = ap (λ p. sum_by f (values p)) (parts_as_rows ps m) ∙ sum_rows names_total names_same (λ p. p.name) f ps m apart new
