-- Tests of columns, and the rows of a map's entries that pass them.
use Rattle.std.proofs.Common.{◌≡◌, ℕ, ℤ, pos, Bool, true, false, cond, not, ◌&&◌, ◌==◌, List, [], ◌∷◌, length, map, drop, filter, refl, sym, ap, subst, ◌∙◌, arith, IsPermutation}
use Rattle.std.proofs.lemmas.Int.{ints}
use Rattle.std.proofs.lemmas.Bool.Decides.{nat_tests}
use Rattle.std.specs.Ordering.{is_eq, int_cmp, nat_cmp}
use Rattle.std.specs.Cmp.Lexicographic.{slice_cmp}
use Rattle.std.proofs.lemmas.List.Sorted.{IsPermutation-trans, IsPermutation-map, IsPermutation-sym, length_permutation}
use Rattle.sqlite_value.specs.declared.value.Value.{Value}
use Rattle.sqlite_value.specs.declared.value.Value.TheVariants.{Null, Int, Text}
use Rattle.sqlite_value.specs.declared.keys.Collation.TheVariants.{Binary}
use Rattle.sqlite_value.specs.Order.{Row}
use Rattle.sqlite_value.proofs.OrderLemmas.{value_cmp-Int, value_cmp-Text}
use Rattle.sqlite_sql.specs.declared.ops.BinaryOp.TheVariants.{Compare}
use Rattle.sqlite_sql.specs.declared.ops.CompareOp.TheVariants.{Eq}
use Rattle.sqlite_sql.specs.Ops.{binary, unary, is_true, from_truth}
use Rattle.sqlite.specs.Cast.{cast}
use Rattle.sqlite.specs.Kind.TheVariants.{Integer}
use Rattle.sqlite_trees.proofs.ListLemmas.{IsPermutation-filter}
use Rattle.sqlite.proofs.Callers.{one_permutation}
use Rattle.std.proofs.Common.{IsTrue}
use Rattle.std.specs.List.{AllByRecursion}
use Rattle.std.specs.declared.cmp.Ordering.TheVariants.{Less}
use Rattle.sqlite_value.specs.Order.{value_cmp}
use Rattle.sqlite.specs.Table.{Table}
use Rattle.sqlite.specs.Cast.{cast_all, cast_row}
use Rattle.sqlite.specs.Rowids.TheVariants.{Chosen, Given}
use Rattle.sqlite_trees.specs.Tree.{rowid, without_rowid}
use Rattle.sqlite_trees.specs.View.{is_int}
use Rattle.sqlite_trees.proofs.ListLemmas.{all-filter, ascending-filter}
use Rattle.sqlite_rules.specs.Edit.{id_in, next_rowid, numbered}
use Rattle.sqlite_rules.proofs.TableLemmas.{int_is}
use Rattle.shop_statements.proofs.Puts.{others_are}
use Rattle.shop_statements.specs.Rows.{AreRows}
use Rattle.shop_statements.proofs.Lists.{filter-map, filter-same, map-map, map-same}

abbrev pub equal : Value → Value → Bool
equal a b = is_true (binary (Compare Eq Binary) a b)

pub reported : (b : Bool) → is_true (from_truth (Rattle.std.proofs.Common.Some b)) ≡ b
reported true = refl
reported false = refl

pub equal-Text : (s t : List ℕ) → equal (Text s) (Text t) ≡ is_eq (slice_cmp nat_cmp s t)
unfolding binary
equal-Text s t = reported _ ∙ ap is_eq (value_cmp-Text s t)

pub as_number : (m n : ℕ) → is_eq (int_cmp (pos m) (pos n)) ≡ is_eq (nat_cmp m n)
as_number m n = grind (arith, ints, nat_tests)

pub equal-Int : (m n : ℕ) → equal (Int (pos m)) (Int (pos n)) ≡ is_eq (nat_cmp m n)
unfolding binary
equal-Int m n = reported _ ∙ ap is_eq (value_cmp-Int (pos m) (pos n)) ∙ as_number m n

either : (b : Bool) (x : Value) → cond b x x ≡ x
either true x = refl
either false x = refl

pub cast-Int : (n : ℤ) → cast Integer (Int n) ≡ Int n
unfolding unary
cast-Int n = either _ (Int n)

pub cast-Null : cast Integer Null ≡ Null
unfolding unary
cast-Null = either _ Null

pub and_true : (b : Bool) → (b && true) ≡ b
and_true true = refl
and_true false = refl

module _ {E : Type 0} (skip : ℕ) (row_of : E → Row) (t : E → Bool) (p q : Row → Bool) (later : (r : Row) → p r ≡ q (drop skip r)) (tests : (e : E) → q (row_of e) ≡ t e) where
  pub matched : (es : List E) (stored : List Row) → AreRows skip (map row_of es) stored → IsPermutation (map row_of (filter t es)) (map (drop skip) (filter p stored))
  matched es stored h =
      let left : filter q (map row_of es) ≡ map row_of (filter t es) = filter-map row_of q es ∙ ap (map row_of) (filter-same _ t tests es) in
      let right : filter q (map (drop skip) stored) ≡ map (drop skip) (filter p stored) = filter-map (drop skip) q stored ∙ ap (map (drop skip)) (sym (filter-same p _ later stored)) in
      rw (← left, ← right) (IsPermutation-filter q _ _ h.same)

  -- those that do not pass
  pub unmatched : (es : List E) (stored : List Row) → AreRows skip (map row_of es) stored
      → IsPermutation (map row_of (filter (λ e. not (t e)) es)) (map (drop skip) (filter (λ r. not (p r)) stored))
  unmatched es stored h =
      let left : filter (λ d. not (q d)) (map row_of es) ≡ map row_of (filter (λ e. not (t e)) es) =
      filter-map row_of (λ d. not (q d)) es ∙ ap (map row_of) (filter-same _ (λ e. not (t e)) (λ e. ap not (tests e)) es) in
      let right : filter (λ d. not (q d)) (map (drop skip) stored) ≡ map (drop skip) (filter (λ r. not (p r)) stored) =
      filter-map (drop skip) (λ d. not (q d)) stored ∙ ap (map (drop skip)) (sym (filter-same (λ r. not (p r)) _ (λ r. ap not (later r)) stored)) in
      rw (← left, ← right) (IsPermutation-filter (λ d. not (q d)) _ _ h.same)

no_rows : {A : Type 0} (xs : List A) → length xs ≡ 0 → xs ≡ []
no_rows [] h = refl
no_rows (x ∷ xs) h = absurd (omega arith)

pub none_permutation : {A : Type 0} (xs : List A) → IsPermutation [] xs → xs ≡ []
none_permutation xs h = no_rows xs (length_permutation [] xs h)

pub reordered : (skip : ℕ) (xs ys stored : List Row) → IsPermutation xs ys → AreRows skip xs stored → AreRows skip ys stored
reordered skip xs ys stored same h = record { same = IsPermutation-trans _ _ _ (IsPermutation-sym _ _ same) h.same; rising = h.rising; keyed = h.keyed }

one_of_map : {A B : Type 0} (f : A → B) (xs : List A) (y : B) → map f xs ≡ y ∷ [] → (x : A) × (xs ≡ x ∷ []) × (f x ≡ y)
one_of_map f [] y h = absurd (cc)
one_of_map f (x ∷ []) y h = (x, refl, cc)
one_of_map f (x ∷ z ∷ xs) y h = absurd (cc)

-- the one row that has a key, and the others
pub record Located {E : Type 0} (skip : ℕ) (row_of : E → Row) (p : Row → Bool) (e : E) (others : List E) (stored : List Row) : Type 0 where
  pub row : Row
  pub id : ℤ
  pub found : filter p stored ≡ row ∷ []
  pub key : rowid row ≡ Int id
  pub is : drop skip row ≡ row_of e
  pub rest : AreRows skip (map row_of others) (without_rowid id stored)

module _ {E : Type 0} (skip : ℕ) (row_of : E → Row) (t : E → Bool) (p q : Row → Bool) (later : (r : Row) → p r ≡ q (drop skip r)) (tests : (e : E) → q (row_of e) ≡ t e) where
  pub located : (es : List E) (stored : List Row) (e : E) → AreRows skip (map row_of es) stored → filter t es ≡ e ∷ [] → Located skip row_of p e (filter (λ x. not (t x)) es) stored
  located es stored e h one =
      let shown : map (drop skip) (filter p stored) ≡ row_of e ∷ [] =
      one_permutation (row_of e) _ (subst (λ l. IsPermutation (map row_of l) (map (drop skip) (filter p stored))) one (matched skip row_of t p q later tests es stored h)) in
      let it = one_of_map (drop skip) (filter p stored) (row_of e) shown in
      let ints = all-filter (λ r. IsTrue (is_int (rowid r))) p stored h.keyed in
      let int : IsTrue (is_int (rowid it.0)) = (subst (AllByRecursion (λ r. IsTrue (is_int (rowid r)))) it.1 ints).0 in
      let key : rowid it.0 ≡ Int (id_in (rowid it.0)) = int_is (rowid it.0) int in
      record {
        row = it.0;
        id = id_in (rowid it.0);
        found = it.1;
        key = key;
        is = it.2;
        rest = record {
          same = subst (λ l. IsPermutation (map row_of (filter (λ x. not (t x)) es)) (map (drop skip) l)) (others_are p it.0 (id_in (rowid it.0)) key stored h.rising it.1) (unmatched skip row_of t p q later tests es stored h);
          rising = ascending-filter (λ a b. value_cmp (rowid a) (rowid b) ≡ Less) _ stored h.rising;
          keyed = all-filter (λ r. IsTrue (is_int (rowid r))) _ stored h.keyed;
        };
      }

-- ---- what is written

-- a new row gets a rowid, and its values are as they were given
pub news_are : (t : Table) (d : Row) (stored : List Row) → cast_all t.columns d ≡ d → numbered Chosen stored (map (λ s. cast_row t (drop 0 s)) ((Null ∷ d) ∷ [])) ≡ (Int (next_rowid stored) ∷ d) ∷ []
news_are t d stored same = rw (cast-Null, same) refl

-- a row whose key is its rowid keeps it
pub news_keyed : (t : Table) (d : Row) (stored : List Row) (n : ℤ) → cast_all t.columns d ≡ d → numbered Chosen stored (map (λ s. cast_row t (drop 0 s)) ((Int n ∷ d) ∷ [])) ≡ (Int n ∷ d) ∷ []
news_keyed t d stored n same = rw (cast-Int n, same) refl

pub news_again : (t : Table) (d : Row) (stored : List Row) (v : Value) (n : ℤ) → cast_all t.columns d ≡ d → v ≡ Int n → numbered Given stored (map (λ s. cast_row t (drop 1 s)) ((v ∷ v ∷ d) ∷ [])) ≡ (Int n ∷ d) ∷ []
news_again t d stored v n same is = rw (is, cast-Int n, same) refl

-- the same, for what a query sorts by and shows
pub shown_as : {E B : Type 0} (skip : ℕ) (row_of : E → Row) (t : E → Bool) (p q : Row → Bool) → ((r : Row) → p r ≡ q (drop skip r)) → ((e : E) → q (row_of e) ≡ t e) → (show show' : Row → B) (out : E → B)
    → ((r : Row) → show r ≡ show' (drop skip r)) → ((e : E) → show' (row_of e) ≡ out e) → (es : List E) (stored : List Row) → AreRows skip (map row_of es) stored → IsPermutation (map out (filter t es)) (map show (filter p stored))
shown_as skip row_of t p q later tests show show' out at whole es stored h =
    let left : map show' (map row_of (filter t es)) ≡ map out (filter t es) = map-map show' row_of _ ∙ map-same _ out whole _ in
    let right : map show' (map (drop skip) (filter p stored)) ≡ map show (filter p stored) = map-map show' (drop skip) _ ∙ map-same _ show (λ r. sym (at r)) _ in
    rw (← left, ← right) (IsPermutation-map show' _ _ (matched skip row_of t p q later tests es stored h))

pub same_number : (m n : ℕ) → is_eq (nat_cmp m n) ≡ (m == n)
same_number m n = grind (arith, nat_tests)
