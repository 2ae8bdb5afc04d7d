-- The row with the greatest number, which a query by falling numbers shows first.
use Rattle.std.proofs.Common.{◌≡◌, ◌⊎◌, ◌≤◌, ℕ, pos, Bool, false, List, [], ◌∷◌, map, drop, filter, take, inl, inr, refl, sym, ap, subst, ◌∙◌, arith, IsPermutation, IsSorted}
use Rattle.std.specs.List.{AllByRecursion, list_all}
use Rattle.std.specs.declared.cmp.Ordering.{Ordering}
use Rattle.std.specs.Ordering.{is_lt, nat_cmp}
use Rattle.std.specs.Cmp.{IsTotalOrder, nat_cmp_total}
use Rattle.std.specs.FinMap.{IsAntisymmetric, nat_cmp-IsAntisymmetric}
use Rattle.std.proofs.lemmas.Bool.Decides.{nat_tests}
use Rattle.std.proofs.lemmas.List.Sorted.{IsPermutation-sym, IsPermutation-trans}
use Rattle.sqlite_value.specs.declared.value.Value.TheVariants.{Int}
use Rattle.sqlite_value.specs.Order.{Row, value_cmp}
use Rattle.sqlite_value.proofs.OrderLemmas.{then-Equal}
use Rattle.sqlite_trees.proofs.ListLemmas.{all-permutation, pull_back}
use Rattle.sqlite.specs.Tree.{Trees}
use Rattle.sqlite.specs.Term.{Term, holds}
use Rattle.sqlite.specs.Query.{Output, output, output_cmp}
use Rattle.sqlite.specs.Program.{overlay, IsProgramAnswer}
use Rattle.shop_statements.specs.Rows.{AreRows}
use Rattle.shop_statements.proofs.Keys.{shown_as}
use Rattle.shop_tables.proofs.Listed.{ranked}
use Rattle.shop_tables.proofs.ListTexts.{falling}
use Rattle.shop_statements.proofs.Lists.{map-map}
use Rattle.shop_statements.proofs.Maps.{Rises}
use Rattle.shop_tables.proofs.Ordered.{rises}
use Rattle.shop_statements.proofs.Selects.{selects}
use Rattle.shop_statements.proofs.Terms.{from_table}

-- the greater number first
abbrev falls_cmp : ℕ → ℕ → Ordering
falls_cmp a b = nat_cmp b a

falls : IsTotalOrder falls_cmp
falls = record {
  antisymm = λ x y. nat_cmp_total.antisymm y x;
  trans = λ x y z p q. nat_cmp_total.trans z y x q p;
  congr = λ x y z tie. ap (nat_cmp z) (sym (nat_cmp-IsAntisymmetric y x tie));
}

falls_same : IsAntisymmetric falls_cmp
falls_same x y tie = sym (nat_cmp-IsAntisymmetric y x tie)

no_greater : (m n : ℕ) → is_lt (nat_cmp n m) ≡ false → m ≤ n
no_greater m n h = grind (arith, nat_tests)

module _ {E : Type 0} (number : E → ℕ) (show : E → Row) (P : E → Type 0) where
  -- the one of these with the greatest number is shown, and what holds of each holds of it, or nothing where there is none
  abbrev pub IsTop : List E → List Row → Type 0
  IsTop mine rows =
      ((mine ≡ []) × (rows ≡ []))
      ⊎ ((e : E) × (rows ≡ show e ∷ []) × (AllByRecursion P mine → P e) × AllByRecursion (λ f. number f ≤ number e) mine)

  abbrev sorted_out : E → Output
  sorted_out e = (Int (pos (number e)) ∷ [], show e)

  abbrev numbered : E → ℕ × E
  numbered e = (number e, e)

  no_higher : (e : E) (es : List E) → AllByRecursion (λ (b : ℕ × E). is_lt (falls_cmp b.0 (number e)) ≡ false) (map numbered es) → AllByRecursion (λ f. number f ≤ number e) es
  no_higher e [] h = tt
  no_higher e (f ∷ es) h = (no_greater (number f) (number e) h.0, no_higher e es h.1)

  nothing : (mine : List E) → IsPermutation mine [] → mine ≡ []
  nothing [] h = refl
  nothing (e ∷ mine) h = absurd (all-permutation (λ _. ⊥) [] (e ∷ mine) (IsPermutation-sym _ _ h) tt).0

  module _ (tree at : ℕ) (tests terms : List Term) where
    by_output : (a b : ℕ × E) → output_cmp (from_table tree tests terms (falling at)) (Int (pos a.0) ∷ [], show a.1) (Int (pos b.0) ∷ [], show b.1) ≡ falls_cmp a.0 b.0
    by_output a b = then-Equal (value_cmp (Int (pos b.0)) (Int (pos a.0))) ∙ ranked b.0 a.0

    top : (mine to : List E) → IsPermutation mine to → IsSorted (output_cmp (from_table tree tests terms (falling at))) (map sorted_out to) → IsTop mine (take 1 (map show to))
    top mine [] same up = inl (nothing mine same, refl)
    top mine (e ∷ to) same up =
        let fall : Rises E falls falls_same (map numbered (e ∷ to)) =
        rises falls falls_same tree tests terms (falling at) (λ (a : ℕ × E). (Int (pos a.0) ∷ [], show a.1)) by_output (map numbered (e ∷ to))
        (subst (IsSorted (output_cmp (from_table tree tests terms (falling at)))) (sym (map-map (λ (a : ℕ × E). (Int (pos a.0) ∷ [], show a.1)) numbered (e ∷ to))) up) in
        inr (
          e,
          refl,
          λ all. (all-permutation P mine (e ∷ to) same all).0,
          all-permutation (λ f. number f ≤ number e) (e ∷ to) mine (IsPermutation-sym _ _ same) (omega arith, no_higher e to fall.0),
        )

    module _ (db : Trees) (params : Row) (low : overlay db [] tree ≡ db tree) (skip : ℕ) (row_of : E → Row) (t : E → Bool) (q : Row → Bool)
        (later : (r : Row) → list_all (holds (params ∷ r ∷ [])) tests ≡ q (drop skip r)) (passes : (e : E) → q (row_of e) ≡ t e)
        (showing : Row → Output) (shown_later : (r : Row) → output (from_table tree tests terms (falling at)) (params ∷ r ∷ []) ≡ showing (drop skip r)) (shows : (e : E) → showing (row_of e) ≡ sorted_out e) where
      pub falling_first : (rows : List Row) (es : List E) → AreRows skip (map row_of es) (db tree) → IsProgramAnswer [] (from_table tree tests terms (falling at)) db params rows → IsTop (filter t es) (take 1 rows)
      falling_first rows es are a =
          let s = selects tree tests terms (falling at) db params low rows a in
          let all = shown_as skip row_of t _ q later passes _ showing sorted_out shown_later shows es (db tree) are in
          let back = pull_back sorted_out _ s.ordered (IsPermutation-trans _ _ _ all s.same) (filter t es) refl in
          let listed : rows ≡ map show back.0 = s.shown ∙ ap (map (λ (o : Output). o.1)) back.2 ∙ map-map (λ (o : Output). o.1) sorted_out back.0 in
          subst (λ rs. IsTop (filter t es) (take 1 rs)) (sym listed) (top (filter t es) back.0 back.1 (subst (IsSorted (output_cmp (from_table tree tests terms (falling at)))) back.2 s.sorted))
