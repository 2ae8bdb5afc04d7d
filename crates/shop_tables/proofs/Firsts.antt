-- The first rows of a query, and the rows of a map's values.
use Rattle.std.proofs.Common.{◌≡◌, ℕ, Bool, false, cond, List, [], ◌∷◌, map, filter, Some, T, refl, sym, ap, ◌∙◌}
use Rattle.std.specs.List.{AllByRecursion}
use Rattle.std.specs.declared.cmp.Ordering.{Ordering}
use Rattle.std.specs.Ordering.{eq_by_cmp, is_eq, is_lt, ordering_reverse}
use Rattle.std.specs.Cmp.{IsTotalOrder, tied_itself}
use Rattle.std.specs.FinMap.{FinMap, IsAntisymmetric, entries, entries_sorted, find, get, get-entries, is_sorted, values}
use Rattle.std.specs.FinMap.Entries.{below_all}
use Rattle.sqlite_value.specs.declared.value.Value.TheVariants.{Null}
use Rattle.sqlite_value.specs.declared.keys.Key.{Key}
use Rattle.sqlite_value.specs.Order.{Row}
use Rattle.sqlite.specs.Tree.{Trees}
use Rattle.sqlite.specs.Term.{Term, eval}
use Rattle.sqlite.specs.Query.{Output, IsAnswer, as_count, limited}
use Rattle.sqlite.specs.Program.{overlay, IsProgramAnswer}
use Rattle.shop_statements.proofs.Lists.{filter-map, filter-same, map-map}
use Rattle.shop_tables.proofs.ListTexts.{first_of}
use Rattle.shop_statements.proofs.Maps.{both, lt_is}
use Rattle.shop_statements.proofs.Terms.{from_table}

-- LIMIT takes the first of what the query without it answers
module _ (tree : ℕ) (tests terms : List Term) (order : List (Term × Key)) (most : Term) (db : Trees) (params : Row) where
  pub first_answer : (rows : List Row) → IsProgramAnswer [] (first_of most (from_table tree tests terms order)) db params rows
      → (all : List Row) × IsProgramAnswer [] (from_table tree tests terms order) db params all × (rows ≡ limited (as_count (eval most (params ∷ []))) all)
  first_answer rows h =
      let a : IsAnswer (first_of most (from_table tree tests terms order)) (overlay db []) params rows = h Null in (
        map (λ (o : Output). o.1) a.ordered,
        λ lost. record { staged = a.staged; grouped = a.grouped; kept = a.kept; distinct = a.distinct; ordered = a.ordered; same = a.same; sorted = a.sorted; shown = refl },
        a.shown,
      )

-- ---- the entries of a map

module _ {K X : Type 0} {R : K → K → Ordering} (o : IsTotalOrder R) (same : IsAntisymmetric R) where
  above_is : (k : K) (f : K × X) → T (is_lt (R k f.0)) → eq_by_cmp R f.0 k ≡ false
  above_is k f h = ap is_eq (o.antisymm f.0 k ∙ ap ordering_reverse (lt_is _ h))

  later_found : (e : K × X) (es fs : List (K × X)) → T (below_all R e.0 fs) → AllByRecursion (λ (f : K × X). find R f.0 es ≡ Some f.1) fs → AllByRecursion (λ (f : K × X). find R f.0 (e ∷ es) ≡ Some f.1) fs
  later_found e es [] low h = tt
  later_found e es (f ∷ fs) low h =
      let parts = both _ _ low in
      (ap (λ b. cond b (Some e.1) (find R f.0 es)) (above_is e.0 f parts.0) ∙ h.0, later_found e es fs parts.1 h.1)

  all_found : (es : List (K × X)) → T (is_sorted R es) → AllByRecursion (λ (e : K × X). find R e.0 es ≡ Some e.1) es
  all_found [] up = tt
  all_found (e ∷ es) up =
      let parts = both _ _ up in
      (ap (λ b. cond b (Some e.1) (find R e.0 es)) (ap is_eq (tied_itself o e.0)), later_found e es es parts.0 (all_found es parts.1))

  -- what holds of each value under its key holds of each entry
  pub each_entry : (m : FinMap R X) (P : K × X → Type 0) → ((k : K) (x : X) → get m k ≡ Some x → P (k, x)) → AllByRecursion P (entries m)
  each_entry m P all = go (entries m) (all_found (entries m) (entries_sorted m))
    where
      go : (es : List (K × X)) → AllByRecursion (λ (e : K × X). find R e.0 (entries m) ≡ Some e.1) es → AllByRecursion P es
      go [] h = tt
      go (e ∷ es) h = (all e.0 e.1 (get-entries m e.0 ∙ h.0), go es h.1)

  module _ (m : FinMap R X) (key : X → K) (own : (k : K) (x : X) → get m k ≡ Some x → key x ≡ k) where
    -- each value stands under its own key
    pub rekeyed : entries m ≡ map (λ x. (key x, x)) (values m)
    rekeyed = go (entries m) (each_entry m (λ e. key e.1 ≡ e.0) own)
      where
        go : (es : List (K × X)) → AllByRecursion (λ (e : K × X). key e.1 ≡ e.0) es → es ≡ map (λ x. (key x, x)) (map (λ (e : K × X). e.1) es)
        go [] h = refl
        go (e ∷ es) h = λ i. (sym h.0 i, e.1) ∷ go es h.1 i

    -- what is shown of the entries is what is shown of the values
    pub of_values : {A : Type 0} (show : K × X → A) (t : K × X → Bool) (p : X → Bool) → ((x : X) → t (key x, x) ≡ p x) → map show (filter t (entries m)) ≡ map (λ x. show (key x, x)) (filter p (values m))
    of_values show t p same_test =
        ap (λ es. map show (filter t es)) rekeyed ∙ ap (map show) (filter-map (λ x. (key x, x)) t (values m)) ∙ map-map show (λ x. (key x, x)) _
        ∙ ap (map (λ x. show (key x, x))) (filter-same (λ x. t (key x, x)) p same_test (values m))
