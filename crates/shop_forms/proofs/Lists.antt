-- Lists of values: what each element stands for, and how the rows of a list are written and read back.
use Rattle.std.proofs.Common.{◌≡◌, ℕ, suc, ◌+◌, ◌<◌, ◌≤◌, List, [], ◌∷◌, ◌++◌, map, length, take, drop, get_or, Bool, true, false, Option, Some, None, refl, sym, ap, subst, ◌∙◌, arith, Bor, Vec, Global}
use Rattle.std.specs.Prelude.{All, option_map, option_and_then, if◌then◌else◌}
use Rattle.std.specs.List.{AllByRecursion}
use Rattle.std.proofs.lemmas.List.{append_assoc, append-nil, take_all, drop_all}
use Rattle.std.proofs.lemmas.List.Elements.{recursion_from_All, All-from_recursion, All-append}
use Rattle.std.proofs.Math.Seq.{take-suc, drop-cons}
use Rattle.std.proofs.Math.Nat.{max-le}
use Rattle.json.specs.Tree.{ItemsHaveNumbers, HasNumbers, depth, items_depth}
use Rattle.serde_json.specs.Data.{Data, Items, item, array}
use Rattle.serde_json.specs.Find.{get, as_array}
use Rattle.serde_json.specs.Read.{of_json, of_items}
use Rattle.serde_json.specs.View.{view, items_of, items_view}
use Rattle.serde_json.specs.Written.{outline, items_outline}
use Rattle.serde_json.specs.declared.value.Value.{Value}
use Rattle.shop_forms.specs.Fields.{elements, elements_at, all_of}

-- ---- elements

elements_of : (ds : List Data) → elements (items_of ds) ≡ ds
elements_of [] = refl
elements_of (d ∷ ds) = ap (λ l. d ∷ l) (elements_of ds)

pub elements_there : (r : Option (Bor (Vec Value Global))) (o : Option Items) → option_map (λ v. items_view v.now.items) r ≡ o
    → option_map (λ v. map view v.now.items) r ≡ option_map elements o
elements_there None o is = ap (option_map elements) is
elements_there (Some v) o is = ap Some (sym (elements_of (map view v.now.items))) ∙ ap (option_map elements) is

-- ---- what all stand for

all_if : {T : Type 0} (b : Bool) (y : T) (ys : List T) → (if b then Some (y ∷ ys) else None) ≡ option_map (λ l. y ∷ l) (if b then Some ys else None)
all_if true y ys = refl
all_if false y ys = refl

module _ {T : Type 0} (read : Data → Option T) where
  pub all_none : (d : Data) (ds : List Data) → read d ≡ None → all_of read (d ∷ ds) ≡ None
  unfolding all_of
  all_none d ds is = rw is refl

  pub all_some : (d : Data) (ds : List Data) (x : T) → read d ≡ Some x → all_of read (d ∷ ds) ≡ option_map (λ l. x ∷ l) (all_of read ds)
  unfolding all_of
  all_some d ds x is = rw is (all_if _ x _)

  pub all_empty : all_of read [] ≡ Some []
  unfolding all_of
  all_empty = refl

before_more : {T : Type 0} (done : List T) (x : T) (o : Option (List T)) → option_map (λ more. done ++ more) (option_map (λ l. x ∷ l) o) ≡ option_map (λ more. (done ++ x ∷ []) ++ more) o
before_more done x None = refl
before_more done x (Some more) = ap Some (sym (append_assoc done (x ∷ []) more))

pub none_before : {T : Type 0} (o : Option (List T)) → o ≡ option_map (λ more. [] ++ more) o
none_before None = refl
none_before (Some more) = refl

-- one more is read
pub read_more : {T : Type 0} (read : Data → Option T) (done : List T) (d : Data) (ds : List Data) (x : T) → read d ≡ Some x
    → option_map (λ more. done ++ more) (all_of read (d ∷ ds)) ≡ option_map (λ more. (done ++ x ∷ []) ++ more) (all_of read ds)
read_more read done d ds x is = ap (option_map (λ more. done ++ more)) (all_some read d ds x is) ∙ before_more done x (all_of read ds)

-- one is none
pub read_none : {T : Type 0} (read : Data → Option T) (done : List T) (d : Data) (ds : List Data) → read d ≡ None → option_map (λ more. done ++ more) (all_of read (d ∷ ds)) ≡ None
read_none read done d ds is = ap (option_map (λ more. done ++ more)) (all_none read d ds is)

-- all are read
pub read_all : {T : Type 0} (read : Data → Option T) (done : List T) → option_map (λ more. done ++ more) (all_of read []) ≡ Some done
read_all read done = ap (option_map (λ more. done ++ more)) (all_empty read) ∙ ap Some (append-nil done)

-- ---- the loops over them

pub next : (i : ℕ) → suc i ≡ i + 1
next i = omega arith

pub values_more : (vs : List Value) (i : ℕ) (v : Value) → i < length vs → v ≡ get_or vs i v → map view (drop i vs) ≡ view v ∷ map view (drop (i + 1) vs)
values_more vs i v lt is =
    ap (map view) (drop-cons vs i v lt) ∙ ap (λ x. view x ∷ map view (drop (suc i) vs)) (sym is) ∙ ap (λ n. view v ∷ map view (drop n vs)) (next i)

pub values_end : (vs : List Value) (i : ℕ) → length vs ≤ i → map view (drop i vs) ≡ []
values_end vs i past = ap (map view) (drop_all i vs past)

module _ {T : Type 0} (P : T → Type 0) where
  pub seen_more : (xs : List T) (i : ℕ) (x : T) → i < length xs → x ≡ get_or xs i x → P x → All P (take i xs) → All P (take (i + 1) xs)
  seen_more xs i x lt is h before =
      let more : take i xs ++ x ∷ [] ≡ take (i + 1) xs = ap (λ y. take i xs ++ y ∷ []) is ∙ sym (take-suc xs i x lt) ∙ ap (λ n. take n xs) (next i) in
      subst (All P) more (All-append P (take i xs) (x ∷ []) before (All-from_recursion P (x ∷ []) (h, tt)))

  pub seen_all : (xs : List T) (i : ℕ) → length xs ≤ i → All P (take i xs) → All P xs
  seen_all xs i past h = subst (All P) (take_all i xs past) h

-- ---- rows as values and as text

module _ {T : Type 0} (said : T → Data) (Is : T → Type 0) where
  module _ (one : (x : T) → Is x → HasNumbers (outline (said x))) where
    numbers_by : (xs : List T) → AllByRecursion Is xs → ItemsHaveNumbers (items_outline (items_of (map said xs)))
    numbers_by [] h = tt
    numbers_by (x ∷ xs) h = (one x h.0, numbers_by xs h.1)

    pub rows_numbers : (xs : List T) → All Is xs → ItemsHaveNumbers (items_outline (items_of (map said xs)))
    rows_numbers xs h = numbers_by xs (recursion_from_All Is xs h)

  pub rows_shallow : ((x : T) → depth (outline (said x)) ≤ 1) → (xs : List T) → items_depth (items_outline (items_of (map said xs))) ≤ 1
  rows_shallow one [] = omega arith
  rows_shallow one (x ∷ xs) = max-le (one x) (rows_shallow one xs)

  module _ (most : ℕ) (one : (x : T) → Is x → depth (outline (said x)) ≤ most) where
    deep_by : (xs : List T) → AllByRecursion Is xs → items_depth (items_outline (items_of (map said xs))) ≤ most
    deep_by [] h = omega arith
    deep_by (x ∷ xs) h = max-le (one x h.0) (deep_by xs h.1)

    pub rows_deep : (xs : List T) → All Is xs → items_depth (items_outline (items_of (map said xs))) ≤ most
    rows_deep xs h = deep_by xs (recursion_from_All Is xs h)

  module _ (one : (x : T) → Is x → of_json (outline (said x)) ≡ Some (said x)) where
    json_by : (xs : List T) → AllByRecursion Is xs → of_items (items_outline (items_of (map said xs))) ≡ Some (items_of (map said xs))
    json_by [] h = refl
    json_by (x ∷ xs) h =
        ap (λ o. option_and_then (λ d. option_map (item d) (of_items (items_outline (items_of (map said xs))))) o) (one x h.0) ∙ ap (option_map (item (said x))) (json_by xs h.1)

    pub rows_json : (xs : List T) → All Is xs → of_items (items_outline (items_of (map said xs))) ≡ Some (items_of (map said xs))
    rows_json xs h = json_by xs (recursion_from_All Is xs h)

  module _ (read : Data → Option T) (one : (x : T) → Is x → read (said x) ≡ Some x) where
    back_by : (xs : List T) → AllByRecursion Is xs → all_of read (elements (items_of (map said xs))) ≡ Some xs
    back_by [] h = all_empty read
    back_by (x ∷ xs) h =
        all_some read (said x) (elements (items_of (map said xs))) x (one x h.0) ∙ ap (option_map (λ more. x ∷ more)) (back_by xs h.1)

    pub rows_there : (key : List ℕ) (d : Data) (xs : List T) → get key d ≡ Some (array (items_of (map said xs))) → All Is xs → option_and_then (all_of read) (elements_at key d) ≡ Some xs
    rows_there key d xs is h =
        ap (λ o. option_and_then (all_of read) (option_map elements (option_and_then as_array o))) is ∙ back_by xs (recursion_from_All Is xs h)
