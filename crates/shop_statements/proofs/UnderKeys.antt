-- The row that a query by a key gave, as it stands.
use Rattle.std.proofs.Common.{◌≡◌, ℕ, Bool, false, List, [], ◌∷◌, map, filter, Contains, All, Option, Some, None, IfSome, inl, inr, refl, sym, ap, subst, ◌∙◌, arith, IsPermutation}
use Rattle.std.proofs.lemmas.Bool.{cases_Bool}
use Rattle.std.proofs.lemmas.List.Elements.{All-cons, All-contains}
use Rattle.std.proofs.lemmas.List.Sorted.{IsPermutation-sym}
use Rattle.sqlite_value.specs.Order.{Row}
use Rattle.shop_statements.specs.Found.{IsUnder, has_key, columns_of}
use Rattle.shop_statements.proofs.Keys.{none_permutation}
use Rattle.shop_statements.proofs.Versions.{shown_of}

none_passes : (p : Row → Bool) (f : Row → Row) (xs : List Row) → map f (filter p xs) ≡ [] → All (λ x. p x ≡ false) xs
none_passes p f [] none = λ k d l. absurd (omega (arith, l))
none_passes p f (x ∷ xs) none = elim (cases_Bool (p x)) [
  | inl pass ↦ absurd (let e = rw pass at none in cc)
  | inr fail ↦ All-cons (λ y. p y ≡ false) x xs fail (none_passes p f xs (rw fail at none))
]

module _ (stored : List Row) (first : ℕ) (key : Row) (n at : ℕ) where
  pub under : (rows : List Row) → IsPermutation (map (columns_of n at) (filter (has_key key first) stored)) rows → (row : Option Row) → IfSome row (Contains rows) → (row ≡ None → rows ≡ []) → IsUnder stored first key n at row
  under rows same None there none =
      let nothing : map (columns_of n at) (filter (has_key key first) stored) ≡ [] =
      none_permutation _ (IsPermutation-sym _ _ (subst (λ rs. IsPermutation (map (columns_of n at) (filter (has_key key first) stored)) rs) (none refl) same)) in
      λ row here. All-contains (λ r. has_key key first r ≡ false) stored row (none_passes (has_key key first) (columns_of n at) stored nothing) here
  under rows same (Some given) there none = shown_of (columns_of n at) (has_key key first) stored rows given same there

-- what is read of the columns that were given stands in the row
pub read_under : (stored : List Row) (first : ℕ) (key : Row) (n at : ℕ) (given columns : Row) → IsUnder stored first key n at (Some given) → ((row : Row) → columns_of n 0 (columns_of n at row) ≡ columns_of n at row) → columns_of n 0 given ≡ columns
    → IsUnder stored first key n at (Some columns)
read_under stored first key n at given columns it whole exact = (it.0, it.1, it.2, sym (whole it.0) ∙ ap (columns_of n 0) it.3 ∙ exact)
