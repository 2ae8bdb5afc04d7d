-- The rows that a query on one table gives.
use Rattle.std.proofs.Common.{◌≡◌, ℕ, Bool, List, [], ◌∷◌, map, filter, ap, subst, ◌∙◌, IsPermutation, IsSorted}
use Rattle.std.specs.List.{list_all}
use Rattle.std.proofs.lemmas.List.Sorted.{IsPermutation-map}
use Rattle.sqlite_value.specs.declared.value.Value.TheVariants.{Null}
use Rattle.sqlite_value.specs.declared.keys.Key.{Key}
use Rattle.sqlite_value.specs.Order.{Row}
use Rattle.sqlite.specs.Tree.{Trees}
use Rattle.sqlite.specs.Term.{Term, Env, holds}
use Rattle.sqlite.specs.Query.{Query, Output, output, output_cmp, IsAnswer}
use Rattle.sqlite.specs.Program.{overlay, IsProgramAnswer}
use Rattle.shop_statements.proofs.Terms.{from_table}
use Rattle.shop_statements.proofs.Lists.{flat_map-cond, map-map}

module _ (tree : ℕ) (tests shows : List Term) (order : List (Term × Key)) (db : Trees) (params : Row) (low : overlay db [] tree ≡ db tree) where
  abbrev pub query : Query
  query = from_table tree tests shows order

  abbrev env : Row → Env
  env r = params ∷ r ∷ []

  abbrev passes : Row → Bool
  passes r = list_all (holds (env r)) tests

  -- the rows that pass are shown, in an order that ORDER BY allows
  pub record Selects (rows : List Row) : Type 0 where
    pub ordered : List Output
    pub same : IsPermutation (map (λ r. output query (env r)) (filter passes (db tree))) ordered
    pub sorted : IsSorted (output_cmp query) ordered
    pub shown : rows ≡ map (λ o. o.1) ordered

  pub selects : (rows : List Row) → IsProgramAnswer [] query db params rows → Selects rows
  selects rows h =
      let a : IsAnswer query (overlay db []) params rows = h Null in
      let staged : a.staged ≡ map env (filter passes (db tree)) = a.grouped ∙ flat_map-cond env passes (overlay db [] tree) ∙ ap (λ t. map env (filter passes t)) low in
      let kept : a.kept ≡ map (λ r. output query (env r)) (filter passes (db tree)) = a.distinct ∙ ap (map (output query)) staged ∙ map-map (output query) env _ in
      record { ordered = a.ordered; same = subst (λ k. IsPermutation k a.ordered) kept a.same; sorted = a.sorted; shown = a.shown }

  -- what is shown, in some order
  pub selected : (rows : List Row) → Selects rows → IsPermutation (map (λ r. (output query (env r)).1) (filter passes (db tree))) rows
  selected rows s = rw s.shown (subst (λ l. IsPermutation l (map (λ (o : Output). o.1) s.ordered)) (map-map (λ (o : Output). o.1) (λ r. output query (env r)) _) (IsPermutation-map (λ (o : Output). o.1) _ _ s.same))
