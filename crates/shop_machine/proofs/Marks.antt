-- Marks of parts, and sums over cells and over lists whose keys differ.
use Rattle.std.proofs.Common.{◌≡◌, ℕ, zero, suc, ◌+◌, Bool, true, false, List, [], ◌∷◌, ◌++◌, map, refl, ap, sym, ◌∙◌, arith, inl, inr}
use Rattle.std.specs.Prelude.{sum_by, T, Some, if◌then◌else◌}
use Rattle.std.specs.List.{flat_map}
use Rattle.std.proofs.lemmas.List.Sums.{sum_by-cons, sum_by-append, sum_by_push}
use Rattle.std.specs.FinMap.{FinMap, entries, entries_sorted, is_sorted, get, get-entries, values}
use Rattle.std.specs.FinMap.Entries.{below_all}
use Rattle.cut_measure.specs.Names.{Name, name_cmp}
use Rattle.cut_measure.specs.Measures.{Size, below, cells_of}
use Rattle.cut_tree.specs.Counting.{sum_below}
use Rattle.cut_tree.proofs.CellSums as rectangle
use Rattle.cut_tree.proofs.CellSums.{sum_cells, sum_below-same}
use Rattle.shop_records.specs.declared.records.Part.{Part}
use Rattle.shop_machine.specs.History.{ReceivedUnit}
use Rattle.shop_records.specs.Elements.{IsIn}
use Rattle.shop_records.proofs.Entries.{below_in, in_found, found_in}
use Rattle.shop_records.proofs.Sums.{first, second}
use Rattle.shop_records.proofs.Basics.{in_append}
use Rattle.shop_records.proofs.Puts.{sum_map, sum_as, sum_none}

-- 1 at the cells of a part, if it is asked for, else 0
abbrev pub mark : Bool → Part → ℕ → ℕ → ℕ
mark b v = rectangle.mark b v.x v.y v.size.w v.size.h

-- ---- lists

module _ {X : Type 0} where
  pub sum_by-add : (f g : X → ℕ) (xs : List X) → sum_by (λ x. f x + g x) xs ≡ sum_by f xs + sum_by g xs
  sum_by-add f g [] = refl
  sum_by-add f g (x ∷ xs) =
      let a : sum_by (λ x. f x + g x) (x ∷ xs) ≡ (f x + g x) + sum_by (λ x. f x + g x) xs = sum_by-cons (λ x. f x + g x) x xs in
      let b : sum_by f (x ∷ xs) ≡ f x + sum_by f xs = sum_by-cons f x xs in
      let c : sum_by g (x ∷ xs) ≡ g x + sum_by g xs = sum_by-cons g x xs in
      omega (arith, a, b, c, sum_by-add f g xs)

  -- no two elements have one key
  abbrev pub Apart : (X → Name) → List X → Type 0
  Apart key [] = Unit {0}
  Apart key (x ∷ xs) = ((y : X) → IsIn y xs → key y ≡ key x → ⊥) × Apart key xs

  -- a sum with one part
  pub sum_by-one : (key : X → Name) (f : X → ℕ) (xs : List X) (x : X) → Apart key xs → IsIn x xs → ((y : X) → IsIn y xs → (key y ≡ key x → ⊥) → f y ≡ 0) → sum_by f xs ≡ f x
  sum_by-one key f [] x a i none = absurd i
  sum_by-one key f (z ∷ zs) x a (inl e) none =
      let s : sum_by f (z ∷ zs) ≡ f z + sum_by f zs = sum_by-cons f z zs in
      let same : f z ≡ f x = ap f (sym e) in
      omega (arith, s, same, sum_none f zs (λ y i. none y (inr i) (λ k. a.0 y i (k ∙ ap key e))))
  sum_by-one key f (z ∷ zs) x a (inr i) none =
      let s : sum_by f (z ∷ zs) ≡ f z + sum_by f zs = sum_by-cons f z zs in
      omega (arith, s, none z (inl refl) (λ k. a.0 x i (sym k)), sum_by-one key f zs x a.1 i (λ y j. none y (inr j)))

  pub apart_append : (key : X → Name) (xs ys : List X) → Apart key xs → Apart key ys → ((x y : X) → IsIn x xs → IsIn y ys → key y ≡ key x → ⊥) → Apart key (xs ++ ys)
  apart_append key [] ys a b other = b
  apart_append key (x ∷ xs) ys a b other = (
    (λ y i e. elim (in_append y xs ys i) [ inl k ↦ a.0 y k e | inr k ↦ other x y (inl refl) k e ]),
    apart_append key xs ys a.1 b (λ z y i j. other z y (inr i) j),
  )

sum_by-flat_map : {X Y : Type 0} (f : Y → ℕ) (g : X → List Y) (xs : List X) → sum_by f (flat_map g xs) ≡ sum_by (λ x. sum_by f (g x)) xs
sum_by-flat_map f g [] = refl
sum_by-flat_map f g (x ∷ xs) =
    sum_by-append f (g x) (flat_map g xs) ∙ ap (λ n. sum_by f (g x) + n) (sum_by-flat_map f g xs) ∙ sym (sum_by-cons (λ x. sum_by f (g x)) x xs)

sum_by-below : (f : ℕ → ℕ) (n : ℕ) → sum_by f (below n) ≡ sum_below f n
sum_by-below f zero = refl
sum_by-below f (suc n) = sum_by_push f (below n) n ∙ ap (λ m. m + f n) (sum_by-below f n)

-- the cells of a rectangle one by one
sum_by-cells : (f : ℕ × ℕ → ℕ) (size : Size) → sum_by f (cells_of size) ≡ sum_cells (λ x y. f (x, y)) size.w size.h
unfolding cells_of
sum_by-cells f size =
    sum_by-flat_map f (λ y. map (λ x. (x, y)) (below size.w)) (below size.h)
    ∙ sum_by-below (λ y. sum_by f (map (λ x. (x, y)) (below size.w))) size.h
    ∙ sum_below-same (λ y. sum_by f (map (λ x. (x, y)) (below size.w))) (λ y. sum_below (λ x. f (x, y)) size.w) size.h
    (λ y l. sum_map f (λ x. (x, y)) (below size.w) ∙ sum_by-below (λ x. f (x, y)) size.w)

-- those of some units
abbrev pub cells_if : (ReceivedUnit → Bool) → ReceivedUnit → List (Name × (ℕ × ℕ))
cells_if test unit = if test unit then map (λ cell. (unit.name, cell)) (cells_of unit.size) else []

unit_cells : (f : Name × (ℕ × ℕ) → ℕ) (u : ReceivedUnit) (b : Bool)
    → sum_by f (if b then map (λ cell. (u.name, cell)) (cells_of u.size) else []) ≡ (if b then sum_cells (λ x y. f (u.name, (x, y))) u.size.w u.size.h else 0)
unit_cells f u true = sum_map f (λ cell. (u.name, cell)) (cells_of u.size) ∙ sum_by-cells (λ cell. f (u.name, cell)) u.size
unit_cells f u false = refl

pub sum_by-units : (f : Name × (ℕ × ℕ) → ℕ) (test : ReceivedUnit → Bool) (units : List ReceivedUnit)
    → sum_by f (flat_map (cells_if test) units) ≡ sum_by (λ u. if test u then sum_cells (λ x y. f (u.name, (x, y))) u.size.w u.size.h else 0) units
sum_by-units f test units =
    sum_by-flat_map f (cells_if test) units
    ∙ sum_as (λ u. sum_by f (cells_if test u)) (λ u. if test u then sum_cells (λ x y. f (u.name, (x, y))) u.size.w u.size.h else 0) units (λ u i. unit_cells f u (test u))

-- ---- entries

entries_apart : (es : List (Name × Part)) → T (is_sorted name_cmp es) → Apart (λ (e : Name × Part). e.0) es
entries_apart [] t = tt
entries_apart (e ∷ es) t = ((λ f i. below_in e.0 es f (first (below_all name_cmp e.0 es) _ t) i), entries_apart es (second (below_all name_cmp e.0 es) _ t))

-- a sum over the rows of a map to which one row adds
pub sum_values-one : (m : FinMap name_cmp Part) (f : Part → ℕ) (n : Name) (p : Part) → get m n ≡ Some p
    → ((k : Name) (q : Part) → get m k ≡ Some q → (k ≡ n → ⊥) → f q ≡ 0) → sum_by f (values m) ≡ f p
sum_values-one m f n p kept none =
    sum_map f (λ (e : Name × Part). e.1) (entries m)
    ∙ sum_by-one (λ (e : Name × Part). e.0) (λ e. f e.1) (entries m) (n, p) (entries_apart (entries m) (entries_sorted m))
    (in_found (entries m) n p (sym (get-entries m n) ∙ kept))
    (λ e i other. none e.0 e.1 (get-entries m e.0 ∙ found_in (entries m) e (entries_sorted m) i) other)
