-- The rows of a table after one is put in or replaced.
use Rattle.std.proofs.Common.{◌≡◌, ℕ, ℤ, Bool, true, false, cond, not, ◌||◌, List, [], ◌∷◌, drop, filter, refl, sym, ap, subst, ◌∙◌, IsPermutation, IsTrue, true≢false}
use Rattle.std.specs.List.{AllByRecursion}
use Rattle.std.specs.declared.cmp.Ordering.TheVariants.{Less, Equal, Greater}
use Rattle.std.specs.Ordering.{is_eq, match_ordering, ordering_reverse}
use Rattle.std.specs.Cmp.{tied_itself}
use Rattle.std.proofs.lemmas.List.Sorted.{IsPermutation-refl, IsPermutation-trans, IsPermutation-cons, IsPermutation-middle, IsPermutation-map}
use Rattle.sqlite_value.specs.declared.value.Value.TheVariants.{Int}
use Rattle.sqlite_value.specs.Order.{Row, value_cmp}
use Rattle.sqlite_value.proofs.OrderLemmas.{value_cmp_total}
use Rattle.sqlite_trees.specs.Tree.{rowid, has_rowid, put_row, without_rowid, IsTable}
use Rattle.sqlite_trees.specs.View.{is_int}
use Rattle.sqlite_trees.proofs.TreeLemmas.{IsTable-put_row, all-put_row}
use Rattle.sqlite_rules.specs.Edit.{is_taken}
use Rattle.shop_statements.specs.Rows.{AreRows}

no_or : (a b : Bool) → (a || b) ≡ false → (a ≡ false) × (b ≡ false)
no_or true b h = absurd (true≢false h)
no_or false b h = (refl, h)

put_adds : (new : Row) (rows : List Row) → is_taken rows new ≡ false → IsPermutation (new ∷ rows) (put_row new rows)
put_adds new [] free = IsPermutation-refl _
put_adds new (r ∷ rows) free =
    let parts = no_or (is_eq (value_cmp (rowid r) (rowid new))) (is_taken rows new) free in
    elim (value_cmp (rowid r) (rowid new)) as (λ o. is_eq o ≡ false → IsPermutation (new ∷ r ∷ rows) (match_ordering o (r ∷ put_row new rows) (new ∷ rows) (new ∷ r ∷ rows))) [
      | Less ↦ λ _. IsPermutation-trans _ _ _ (IsPermutation-middle (new ∷ []) r rows) (IsPermutation-cons r _ _ (put_adds new rows parts.1))
      | Equal ↦ λ h. absurd (true≢false h)
      | Greater ↦ λ _. IsPermutation-refl _
    ] parts.0

pub added : (skip : ℕ) (new : Row) (n : ℤ) (rows stored : List Row) → rowid new ≡ Int n → AreRows skip rows stored → is_taken stored new ≡ false → AreRows skip (drop skip new ∷ rows) (put_row new stored)
added skip new n rows stored key h free = record {
  same = IsPermutation-trans _ _ _ (IsPermutation-cons (drop skip new) _ _ h.same) (IsPermutation-map (drop skip) _ _ (put_adds new stored free));
  rising = IsTable-put_row new stored h.rising;
  keyed = all-put_row (λ r. IsTrue (is_int (rowid r))) new stored (subst (λ v. IsTrue (is_int v)) (sym key) refl) h.keyed;
}

module _ (p : Row → Bool) (r : Row) (n : ℤ) (key : rowid r ≡ Int n) where
  none_passes : (xs : List Row) → filter p xs ≡ [] → filter (λ x. not (p x)) xs ≡ xs
  none_passes [] none = refl
  none_passes (x ∷ xs) none =
      elim (p x) as (λ b. cond b (x ∷ filter p xs) (filter p xs) ≡ [] → cond (not b) (x ∷ filter (λ y. not (p y)) xs) (filter (λ y. not (p y)) xs) ≡ x ∷ xs)
      [ true ↦ λ h. absurd (cc) | false ↦ λ h. ap (λ l. x ∷ l) (none_passes xs h) ] none

  above : (x : Row) (xs : List Row) → rowid x ≡ Int n → AllByRecursion (λ y. value_cmp (rowid x) (rowid y) ≡ Less) xs → without_rowid n xs ≡ xs
  above x [] is up = refl
  above x (y ∷ ys) is up =
      let other : has_rowid n y ≡ false = ap is_eq (value_cmp_total.antisymm (rowid y) (Int n) ∙ ap ordering_reverse (subst (λ v. value_cmp v (rowid y) ≡ Less) is up.0)) in
      rw (other, above x ys is up.1)

  below : (x : Row) (xs : List Row) → filter p xs ≡ r ∷ [] → AllByRecursion (λ y. value_cmp (rowid x) (rowid y) ≡ Less) xs → has_rowid n x ≡ false
  below x [] found up = absurd (cc)
  below x (y ∷ ys) found up =
      elim (p y) as (λ b. cond b (y ∷ filter p ys) (filter p ys) ≡ r ∷ [] → has_rowid n x ≡ false) [
        | true ↦ λ h. let same : y ≡ r = cc in ap is_eq (subst (λ v. value_cmp (rowid x) v ≡ Less) (ap rowid same ∙ key) up.0)
        | false ↦ λ h. below x ys h up.1
      ] found

  -- the one row that passes is the one that has its rowid
  pub others_are : (stored : List Row) → IsTable stored → filter p stored ≡ r ∷ [] → filter (λ x. not (p x)) stored ≡ without_rowid n stored
  others_are [] up found = refl
  others_are (x ∷ xs) up found =
      elim (p x) as (λ b. cond b (x ∷ filter p xs) (filter p xs) ≡ r ∷ [] → cond (not b) (x ∷ filter (λ y. not (p y)) xs) (filter (λ y. not (p y)) xs) ≡ without_rowid n (x ∷ xs)) [
        | true ↦ λ h.
            let same : x ≡ r = cc in
            let rest : filter p xs ≡ [] = cc in
            let id : rowid x ≡ Int n = ap rowid same ∙ key in
            let here : has_rowid n x ≡ true = ap is_eq (subst (λ v. value_cmp (rowid x) v ≡ Equal) id (tied_itself value_cmp_total (rowid x))) in
            rw here (none_passes xs rest ∙ sym (above x xs id up.0))
        | false ↦ λ h. rw (below x xs h up.0) (ap (λ l. x ∷ l) (others_are xs up.1 h))
      ] found
