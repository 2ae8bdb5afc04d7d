-- Names, codes, maps into which rows are put, and lists.
use Rattle.std.proofs.Common.{◌≡◌, ℕ, zero, suc, ◌<◌, List, [], ◌∷◌, ◌++◌, length, map, get_or, true, false, nat_eq, refl, sym, ap, subst, ◌∙◌, arith, inl, inr, ◌⊎◌, cond, true≢false}
use Rattle.std.specs.Prelude.{Option, Some, None, All, Any, AllPairs, ◌&&◌, ◌⊎◌}
use Rattle.std.specs.declared.cmp.Ordering.{Ordering}
use Rattle.std.specs.declared.cmp.Ordering.TheVariants.{Less, Equal, Greater}
use Rattle.std.specs.Ordering.{nat_cmp, is_eq, ordering_then}
use Rattle.std.specs.FinMap.{FinMap, IsAntisymmetric, get, insert, get-insert, nat_cmp-IsAntisymmetric, slice_cmp-IsAntisymmetric}
use Rattle.std.specs.Cmp.{IsTotalOrder, on_total, then_total, nat_cmp_total, tied_itself, nat_cmp_is}
use Rattle.std.specs.Cmp.Lexicographic.{nat_list_cmp_total}
use Rattle.std.proofs.lemmas.Bool.{cases_eq, eq-eqb, ne_eqb}
use Rattle.cut_measure.specs.Names.{Name, name_cmp}
use Rattle.cut_measure.specs.Codes.{code_cmp}
use Rattle.shop_records.specs.declared.records.Part.{Part}
use Rattle.shop_records.specs.declared.records.Demand.{Demand}
use Rattle.shop_records.specs.Same.{same_name}
use Rattle.shop_records.specs.Content.{with_parts, with_demands}
use Rattle.shop_records.specs.Elements.{IsIn}

-- ---- keys and their orders

pub names_total : IsTotalOrder name_cmp
names_total = then_total (on_total (λ n. n.act) nat_cmp_total) (on_total (λ n. n.node) nat_cmp_total)

pub codes_total : IsTotalOrder code_cmp
codes_total = nat_list_cmp_total

pub codes_same : IsAntisymmetric code_cmp
codes_same a b e = slice_cmp-IsAntisymmetric nat_cmp-IsAntisymmetric a b e

pub then_equal : (a b : Ordering) → ordering_then a b ≡ Equal → (a ≡ Equal) × (b ≡ Equal)
then_equal Less b e = absurd (true≢false (sym (ap is_eq e)))
then_equal Equal b e = (refl, e)
then_equal Greater b e = absurd (true≢false (sym (ap is_eq e)))

pub names_equal : (a b : Name) → a.act ≡ b.act → a.node ≡ b.node → a ≡ b
names_equal a b p q = λ i. record { act = p i; node = q i }

pub names_same : IsAntisymmetric name_cmp
names_same a b e =
    let both = then_equal (nat_cmp a.act b.act) (nat_cmp a.node b.node) e in
    names_equal a b (nat_cmp-IsAntisymmetric a.act b.act both.0) (nat_cmp-IsAntisymmetric a.node b.node both.1)

pub nat_cases : (m n : ℕ) → ((m ≡ n) × (nat_eq m n ≡ true)) ⊎ ((m ≡ n → ⊥) × (nat_eq m n ≡ false))
nat_cases m n = elim (cases_eq m n) [ inl e ↦ inl (e, eq-eqb m n e) | inr f ↦ inr (f, ne_eqb m n f) ]

pub name_cases : (a b : Name) → ((a ≡ b) × (same_name a b ≡ true)) ⊎ ((a ≡ b → ⊥) × (same_name a b ≡ false))
name_cases a b =
    elim (nat_cases a.act b.act) [
      | inr n ↦ inr ((λ e. n.0 (ap (λ (c : Name). c.act) e)), ap (λ t. t && nat_eq a.node b.node) n.1)
      | inl p ↦ elim (nat_cases a.node b.node) [
        | inl q ↦ inl (names_equal a b p.0 q.0, ap (λ t. t && nat_eq a.node b.node) p.1 ∙ q.1)
        | inr n ↦ inr ((λ e. n.0 (ap (λ (c : Name). c.node) e)), ap (λ t. t && nat_eq a.node b.node) p.1 ∙ n.1)
      ]
    ]

-- ---- options

pub same_some : {X : Type 0} (x y : X) → Some x ≡ Some y → x ≡ y
same_some x y e = cc

pub none_some : {X : Type 0} (x : X) → None ≡ Some x → ⊥
none_some x e = cc

pub none_at : {X : Type 0} (found : Option X) → ((x : X) → found ≡ Some x → ⊥) → found ≡ None
none_at None off = refl
none_at (Some x) off = absurd (off x refl)

-- ---- maps

module _ {K : Type 0} {R : K → K → Ordering} (o : IsTotalOrder R) (same : IsAntisymmetric R) where
  unequal : (q k : K) (r : Ordering) → R q k ≡ r → (q ≡ k → ⊥) → is_eq r ≡ false
  unequal q k Less e n = refl
  unequal q k Equal e n = absurd (n (same q k e))
  unequal q k Greater e n = refl

  pub tied : (q k : K) → q ≡ k → is_eq (R q k) ≡ true
  tied q k e = ap (λ v. is_eq (R v k)) e ∙ ap is_eq (tied_itself o k)

  pub untied : (q k : K) → (q ≡ k → ⊥) → is_eq (R q k) ≡ false
  untied q k n = unequal q k (R q k) refl n

  pub key_cases : (q k : K) → ((q ≡ k) × (is_eq (R q k) ≡ true)) ⊎ ((q ≡ k → ⊥) × (is_eq (R q k) ≡ false))
  key_cases q k = go (R q k) refl
    where
      go : (r : Ordering) → R q k ≡ r → ((q ≡ k) × (is_eq (R q k) ≡ true)) ⊎ ((q ≡ k → ⊥) × (is_eq (R q k) ≡ false))
      go Less e = inr ((λ f. true≢false (sym (tied q k f) ∙ ap is_eq e)), ap is_eq e)
      go Equal e = inl (same q k e, ap is_eq e)
      go Greater e = inr ((λ f. true≢false (sym (tied q k f) ∙ ap is_eq e)), ap is_eq e)

  module _ {X : Type 0} (m : FinMap R X) (k : K) (v : X) where
    pub get_same : get (insert m k v) k ≡ Some v
    get_same = get-insert o m k v k ∙ ap (λ b. cond b (Some v) (get m k)) (tied k k refl)

    pub get_other : (q : K) → (q ≡ k → ⊥) → get (insert m k v) q ≡ get m q
    get_other q n = get-insert o m k v q ∙ ap (λ b. cond b (Some v) (get m q)) (untied q k n)

-- ---- lists

module _ {X : Type 0} where
  pub all_in : (P : X → Type 0) (xs : List X) → All P xs → (x : X) → IsIn x xs → P x
  all_in P [] a x i = absurd i
  all_in P (y ∷ ys) a x (inl e) = subst P (sym e) (a 0 y (omega arith))
  all_in P (y ∷ ys) a x (inr i) = all_in P ys (λ k d l. a (suc k) d (omega arith)) x i

  pub at_in : (xs : List X) (k : ℕ) (d : X) → k < length xs → IsIn (get_or xs k d) xs
  at_in [] k d l = absurd (omega arith)
  at_in (x ∷ xs) zero d l = inl refl
  at_in (x ∷ xs) (suc k) d l = inr (at_in xs k d (omega arith))

  pub in_at : (xs : List X) (x : X) → IsIn x xs → (k : ℕ) × (k < length xs) × (get_or xs k x ≡ x)
  in_at [] x i = absurd i
  in_at (y ∷ ys) x (inl e) = (0, omega arith, sym e)
  in_at (y ∷ ys) x (inr i) = let r = in_at ys x i in let within : r.0 < length ys = r.1 in (suc r.0, omega arith, r.2)

  pub any_in : (P : X → Type 0) (xs : List X) → Any P xs → (x : X) × IsIn x xs × P x
  any_in P xs a = (a.1, subst (λ (x : X). IsIn x xs) a.3 (at_in xs a.0 a.1 a.2), a.4)

  -- of two elements, one is the other or comes before it
  pub pair_in : (Q : X → X → Type 0) (xs : List X) → AllPairs Q xs → (x y : X) → IsIn x xs → IsIn y xs → (x ≡ y) ⊎ (Q x y ⊎ Q y x)
  pair_in Q [] a x y i j = absurd i
  pair_in Q (z ∷ zs) a x y (inl e) (inl f) = inl (e ∙ sym f)
  pair_in Q (z ∷ zs) a x y (inl e) (inr j) =
      inr (inl (subst (λ (v : X). Q v y) (sym e) (all_in (Q z) zs (λ k d l. a 0 (suc k) d (omega arith) (omega arith)) y j)))
  pair_in Q (z ∷ zs) a x y (inr i) (inl f) =
      inr (inr (subst (λ (v : X). Q v x) (sym f) (all_in (Q z) zs (λ k d l. a 0 (suc k) d (omega arith) (omega arith)) x i)))
  pair_in Q (z ∷ zs) a x y (inr i) (inr j) = pair_in Q zs (λ k l d lt h. a (suc k) (suc l) d (omega arith) (omega arith)) x y i j

  pub in_append : (x : X) (xs ys : List X) → IsIn x (xs ++ ys) → IsIn x xs ⊎ IsIn x ys
  in_append x [] ys i = inr i
  in_append x (y ∷ xs) ys (inl e) = inl (inl e)
  in_append x (y ∷ xs) ys (inr i) = elim (in_append x xs ys i) [ inl k ↦ inl (inr k) | inr k ↦ inr k ]

  pub in_later : (x : X) (xs ys : List X) → IsIn x ys → IsIn x (xs ++ ys)
  in_later x [] ys i = i
  in_later x (z ∷ xs) ys i = inr (in_later x xs ys i)

  pub in_first : (x : X) (xs ys : List X) → IsIn x xs → IsIn x (xs ++ ys)
  in_first x [] ys i = absurd i
  in_first x (z ∷ xs) ys (inl e) = inl e
  in_first x (z ∷ xs) ys (inr i) = inr (in_first x xs ys i)

pub in_map : {X Y : Type 0} (f : X → Y) (xs : List X) (y : Y) → IsIn y (map f xs) → (x : X) × IsIn x xs × (y ≡ f x)
in_map f [] y i = absurd i
in_map f (x ∷ xs) y (inl e) = (x, inl refl, e)
in_map f (x ∷ xs) y (inr i) = let r = in_map f xs y i in (r.0, inr r.1, r.2)

pub map_in : {X Y : Type 0} (f : X → Y) (xs : List X) (x : X) → IsIn x xs → IsIn (f x) (map f xs)
map_in f [] x i = absurd i
map_in f (z ∷ xs) x (inl e) = inl (ap f e)
map_in f (z ∷ xs) x (inr i) = inr (map_in f xs x i)

-- ---- rows that are put one after another

-- each row under its own key
abbrev pub with_rows : {K X : Type 0} {R : K → K → Ordering} → (X → K) → List X → FinMap R X → FinMap R X
with_rows key [] m = m
with_rows key (x ∷ xs) m = with_rows key xs (insert m (key x) x)

pub parts_as_rows : (ps : List Part) (m : FinMap name_cmp Part) → with_parts ps m ≡ with_rows (λ (p : Part). p.name) ps m
parts_as_rows [] m = refl
parts_as_rows (p ∷ ps) m = parts_as_rows ps (insert m p.name p)

pub demands_as_rows : (ds : List Demand) (m : FinMap nat_cmp Demand) → with_demands ds m ≡ with_rows (λ (d : Demand). d.number) ds m
demands_as_rows [] m = refl
demands_as_rows (d ∷ ds) m = demands_as_rows ds (insert m d.number d)

module _ {K X : Type 0} {R : K → K → Ordering} (o : IsTotalOrder R) (same : IsAntisymmetric R) (key : X → K) where
  -- a row is one of those that were put, or what it was
  pub row_cases : (xs : List X) (m : FinMap R X) (k : K)
      → ((x : X) × IsIn x xs × (key x ≡ k) × (get (with_rows key xs m) k ≡ Some x))
      ⊎ (((x : X) → IsIn x xs → key x ≡ k → ⊥) × (get (with_rows key xs m) k ≡ get m k))
  row_cases [] m k = inr ((λ x i e. absurd i), refl)
  row_cases (x ∷ xs) m k =
      elim (row_cases xs (insert m (key x) x) k) [
        | inl f ↦ inl (f.0, inr f.1, f.2, f.3)
        | inr f ↦ elim (key_cases o same k (key x)) [
          | inl e ↦ inl (x, inl refl, sym e.0, f.1 ∙ ap (get (insert m (key x) x)) e.0 ∙ get_same o same m (key x) x)
          | inr e ↦ inr (
            (λ y i is. elim i [ inl was ↦ e.0 (sym is ∙ ap key was) | inr j ↦ f.0 y j is ]),
            f.1 ∙ get_other o same m (key x) x k e.0,
          )
        ]
      ]

-- the same of parts and of demands
pub put_cases : (ps : List Part) (m : FinMap name_cmp Part) (n : Name)
    → ((q : Part) × IsIn q ps × (q.name ≡ n) × (get (with_parts ps m) n ≡ Some q))
    ⊎ (((q : Part) → IsIn q ps → q.name ≡ n → ⊥) × (get (with_parts ps m) n ≡ get m n))
put_cases ps m n =
    elim (row_cases names_total names_same (λ (p : Part). p.name) ps m n) [
      | inl f ↦ inl (f.0, f.1, f.2, ap (λ (v : FinMap name_cmp Part). get v n) (parts_as_rows ps m) ∙ f.3)
      | inr f ↦ inr (f.0, ap (λ (v : FinMap name_cmp Part). get v n) (parts_as_rows ps m) ∙ f.1)
    ]

pub demand_cases : (ds : List Demand) (m : FinMap nat_cmp Demand) (n : ℕ)
    → ((d : Demand) × IsIn d ds × (d.number ≡ n) × (get (with_demands ds m) n ≡ Some d))
    ⊎ (((d : Demand) → IsIn d ds → d.number ≡ n → ⊥) × (get (with_demands ds m) n ≡ get m n))
demand_cases ds m n =
    elim (row_cases nat_cmp_total nat_cmp-IsAntisymmetric (λ (d : Demand). d.number) ds m n) [
      | inl f ↦ inl (f.0, f.1, f.2, ap (λ (v : FinMap nat_cmp Demand). get v n) (demands_as_rows ds m) ∙ f.3)
      | inr f ↦ inr (f.0, ap (λ (v : FinMap nat_cmp Demand). get v n) (demands_as_rows ds m) ∙ f.1)
    ]

-- ---- names in their order

pub earlier_act : (a b : Name) → a.act < b.act → name_cmp a b ≡ Less
earlier_act a b h = ap (λ (o : Ordering). ordering_then o (nat_cmp a.node b.node)) (sym (nat_cmp_is a.act b.act Less h))

pub earlier_node : (a b : Name) → a.act ≡ b.act → a.node < b.node → name_cmp a b ≡ Less
earlier_node a b e h =
    ap (λ (o : Ordering). ordering_then o (nat_cmp a.node b.node)) (sym (nat_cmp_is a.act b.act Equal e)) ∙ sym (nat_cmp_is a.node b.node Less h)
