-- The rows of a table that a query shows in the order of their keys.
use Rattle.std.proofs.Common.{◌≡◌, ℕ, suc, ◌+◌, ◌<◌, Bool, true, List, [], ◌∷◌, length, map, drop, filter, get_or, Result, IfOk, IsTrue, refl, sym, ap, subst, ◌∙◌, arith, IsSorted, Vec}
use Rattle.std.specs.List.{AllByRecursion, list_all}
use Rattle.std.specs.declared.alloc.Global.{Global}
use Rattle.std.specs.declared.cmp.Ordering.{Ordering}
use Rattle.std.specs.declared.cmp.Ordering.TheVariants.{Equal}
use Rattle.std.specs.Ordering.{is_lt, ordering_then}
use Rattle.std.specs.Cmp.{IsTotalOrder}
use Rattle.std.specs.FinMap.{FinMap, IsAntisymmetric, entries, entries_sorted}
use Rattle.std.specs.List.Sorted.{IsSortedBy}
use Rattle.std.proofs.lemmas.List.{length-map, get_or-map}
use Rattle.std.proofs.lemmas.List.Sorted.{sorted_far, ranks_by, IsPermutation-trans}
use Rattle.std.proofs.lemmas.Result.{IfOk-weaker}
use Rattle.sqlite_value.specs.declared.keys.Key.{Key}
use Rattle.sqlite_value.specs.declared.value.Value.TheVariants.{Text}
use Rattle.sqlite_value.specs.Order.{Row, column, value_cmp}
use Rattle.sqlite_value.proofs.OrderLemmas.{value_cmp-Text, then-Equal}
use Rattle.sqlite_trees.specs.Tree.{IsAscending}
use Rattle.sqlite_trees.proofs.ListLemmas.{pull_back}
use Rattle.sqlite.specs.declared.error.Error.{Error}
use Rattle.sqlite.specs.declared.rows.Row.{Row as Answered}
use Rattle.sqlite.specs.Schema.{Schema}
use Rattle.sqlite.specs.Tree.{Trees}
use Rattle.sqlite.specs.Term.{Term, holds}
use Rattle.sqlite.specs.Query.{Query, Output, output, output_cmp}
use Rattle.sqlite.specs.Program.{overlay, IsProgramAnswer}
use Rattle.sqlite.specs.State.{State, HasCleanDisk, Shown}
use Rattle.sqlite.proofs.Callers.{reads_as}
use Rattle.cut_measure.specs.Codes.{code_cmp}
use Rattle.shop_records.specs.declared.records.Material.{Material}
use Rattle.shop_records.specs.declared.records.Totals.{Totals}
use Rattle.shop_tables.specs.Listing.{code_row, key_of, listed_row}
use Rattle.shop_statements.specs.Rows.{AreRows, material_row, totals_row}
use Rattle.shop_statements.specs.Selecting.{is_select}
use Rattle.shop_statements.specs.Shown.{Books, Shows, Holds, Leaves}
use Rattle.shop_statements.proofs.Finding.{code_total, code_same}
use Rattle.shop_statements.proofs.Keys.{shown_as}
use Rattle.shop_statements.proofs.Kept.{shown_open}
use Rattle.shop_statements.proofs.Lists.{map-map}
use Rattle.shop_statements.proofs.Maps.{one_order, sorted_filter, Rises}
use Rattle.shop_statements.proofs.Selects.{selects}
use Rattle.shop_statements.proofs.Terms.{Reads, from_table}
use Rattle.shop_tables.proofs.ListTexts.{by_code, all_codes_text, all_codes_terms, all_codes_is, all_totals_text, all_totals_terms, all_totals_is}
use Rattle.shop_statements.proofs.Texts.{shop, shop_is}

-- from places to each earlier and later element
module _ {A : Type 0} (P : A → A → Type 0) where
  each : (x : A) (xs : List A) → ((j : ℕ) → j < length xs → P x (get_or xs j x)) → AllByRecursion (P x) xs
  each x xs h = go xs h
    where
      go : (ys : List A) → ((j : ℕ) → j < length ys → P x (get_or ys j x)) → AllByRecursion (P x) ys
      go [] h = tt
      go (y ∷ ys) h = (h 0 (omega arith), go ys (λ j lt. h (suc j) (omega arith)))

  ascends : (xs : List A) → ((i j : ℕ) (d : A) → i < j → j < length xs → P (get_or xs i d) (get_or xs j d)) → IsAscending P xs
  ascends [] h = tt
  ascends (x ∷ xs) h = (each x xs (λ j lt. h 0 (suc j) x (omega arith) (omega arith)), ascends xs (λ i j d lt up. h (suc i) (suc j) d (omega arith) (omega arith)))

module _ {K X : Type 0} {R : K → K → Ordering} (o : IsTotalOrder R) (same : IsAntisymmetric R) (tree : ℕ) (tests terms : List Term) (order : List (Term × Key)) (out : K × X → Output)
    (by_output : (a b : K × X) → output_cmp (from_table tree tests terms order) (out a) (out b) ≡ R a.0 b.0) where
  abbrev asked : Query
  asked = from_table tree tests terms order

  adjacent : (to : List (K × X)) → IsSorted (output_cmp asked) (map out to) → IsSortedBy (λ a b. is_lt (R a.0 b.0)) to
  adjacent to up k d low within =
      let inside : k + 1 < length (map out to) = rw length-map within in
      let first = up k (out d) low inside in
      ap is_lt (sym (by_output (get_or to (k + 1) d) (get_or to k d))) ∙ rw (get_or-map out to (k + 1) d (out d) within, get_or-map out to k d (out d) (omega arith)) at first

  pub rises : (to : List (K × X)) → IsSorted (output_cmp asked) (map out to) → Rises X o same to
  rises to up = ascends (λ a b. is_lt (R b.0 a.0) ≡ Rattle.std.proofs.Common.false) to (λ i j d lt within. sorted_far (λ a b. is_lt (R a.0 b.0)) (ranks_by o (λ (e : K × X). e.0)) to (adjacent to up) i j d (omega arith) within)

  -- what a query answers on a table whose rows are those of a map
  module _ (skip : ℕ) (db : Trees) (params : Row) (low : overlay db [] tree ≡ db tree) (row_of : K × X → Row) (t : K × X → Bool) (q : Row → Bool)
      (later : (r : Row) → list_all (holds (params ∷ r ∷ [])) tests ≡ q (drop skip r)) (passes : (e : K × X) → q (row_of e) ≡ t e)
      (show : Row → Output) (shown_later : (r : Row) → output asked (params ∷ r ∷ []) ≡ show (drop skip r)) (shows : (e : K × X) → show (row_of e) ≡ out e) where
    pub in_order : (rows : List Row) (m : FinMap R X) → AreRows skip (map row_of (entries m)) (db tree) → IsProgramAnswer [] asked db params rows → rows ≡ map (λ e. (out e).1) (filter t (entries m))
    in_order rows m are a =
        let s = selects tree tests terms order db params low rows a in
        let mine = filter t (entries m) in
        let all = shown_as skip row_of t _ q later passes _ show out shown_later shows (entries m) (db tree) are in
        let back = pull_back out _ s.ordered (IsPermutation-trans _ _ _ all s.same) mine refl in
        let to = back.0 in
        let one : mine ≡ to = one_order X o same mine to (sorted_filter X o same t (entries m) (entries_sorted m))
        (rises to (subst (IsSorted (output_cmp asked)) back.2 s.sorted)) back.1 in
        s.shown ∙ ap (map (λ (o : Output). o.1)) back.2 ∙ map-map (λ (o : Output). o.1) out to ∙ ap (map (λ (e : K × X). (out e).1)) (sym one)

pub filter_true : {A : Type 0} (xs : List A) → filter (λ _. true) xs ≡ xs
filter_true [] = refl
filter_true (x ∷ xs) = ap (λ l. x ∷ l) (filter_true xs)

-- ---- tables whose key is a code

pub by_first : (a b : List ℕ) → ordering_then (value_cmp (Text a) (Text b)) Equal ≡ code_cmp a b
by_first a b = then-Equal (value_cmp (Text a) (Text b)) ∙ value_cmp-Text a b

-- the codes of materials, under any schema in which the text means this
pub lists_codes_of : (old new : State) (schema : Schema) (has : old.now.schema ≡ schema) (names : List (List ℕ)) → Reads schema all_codes_text (from_table 2 [] all_codes_terms by_code) names → (m : FinMap code_cmp Material)
    → AreRows 1 (map material_row (entries m)) (old.now.trees 2) → (rows : List Row) → Shown all_codes_text [] old new rows → rows ≡ map (λ e. code_row (key_of e)) (entries m)
lists_codes_of old new schema has names is m are rows shown =
    let a = (reads_as all_codes_text [] old new schema has _ is.command is.plain is.listing rows shown).answer in
    in_order code_total code_same 2 [] all_codes_terms by_code (λ e. (Text e.0 ∷ [], code_row e.0)) (λ e f. by_first e.0 f.0) 1 old.now.trees [] refl material_row (λ _. true) (λ _. true) (λ r. refl) (λ e. refl)
    (λ d. (column d 0 ∷ [], column d 0 ∷ [])) one_later (λ e. refl) rows m are a
    ∙ ap (map (λ e. code_row (key_of e))) (filter_true (entries m))
  where
    one_later : (r : Row) → ◌≡◌ {A = Output} (column r 1 ∷ [], column r 1 ∷ []) (column (drop 1 r) 0 ∷ [], column (drop 1 r) 0 ∷ [])
    one_later [] = refl
    one_later (x ∷ d) = refl

-- and the totals
pub lists_totals_of : (old new : State) (schema : Schema) (has : old.now.schema ≡ schema) (names : List (List ℕ)) → Reads schema all_totals_text (from_table 17 [] all_totals_terms by_code) names → (sums : FinMap code_cmp Totals)
    → AreRows 1 (map totals_row (entries sums)) (old.now.trees 17) → (rows : List Row) → Shown all_totals_text [] old new rows → rows ≡ map listed_row (entries sums)
lists_totals_of old new schema has names is sums are rows shown =
    let a = (reads_as all_totals_text [] old new schema has _ is.command is.plain is.listing rows shown).answer in
    in_order code_total code_same 17 [] all_totals_terms by_code (λ e. (Text e.0 ∷ [], listed_row e)) (λ e f. by_first e.0 f.0) 1 old.now.trees [] refl totals_row (λ _. true) (λ _. true) (λ r. refl) (λ e. refl)
    (λ d. (column d 0 ∷ [], column d 1 ∷ column d 2 ∷ column d 3 ∷ column d 4 ∷ column d 5 ∷ column d 6 ∷ column d 7 ∷ column d 0 ∷ [])) eight_later (λ e. refl) rows sums are a
    ∙ ap (map listed_row) (filter_true (entries sums))
  where
    eight_later : (r : Row) → ◌≡◌ {A = Output} (column r 1 ∷ [], column r 2 ∷ column r 3 ∷ column r 4 ∷ column r 5 ∷ column r 6 ∷ column r 7 ∷ column r 8 ∷ column r 1 ∷ [])
        (column (drop 1 r) 0 ∷ [], column (drop 1 r) 1 ∷ column (drop 1 r) 2 ∷ column (drop 1 r) 3 ∷ column (drop 1 r) 4 ∷ column (drop 1 r) 5 ∷ column (drop 1 r) 6 ∷ column (drop 1 r) 7 ∷ column (drop 1 r) 0 ∷ [])
    eight_later [] = refl
    eight_later (x ∷ d) = refl

module _ (old new : State) (b : Books) (has : Shows old b) where
  pub lists_codes : (rows : List Row) → Shown all_codes_text [] old new rows → rows ≡ map (λ e. code_row (key_of e)) (entries b.content.materials)
  lists_codes = lists_codes_of old new (shop old.now.schema has.schema) (shop_is old.now.schema has.schema) _ (all_codes_is old.now.schema has.schema) b.content.materials has.stands.materials

  pub lists_totals : (rows : List Row) → Shown all_totals_text [] old new rows → rows ≡ map listed_row (entries b.totals)
  lists_totals = lists_totals_of old new (shop old.now.schema has.schema) (shop_is old.now.schema has.schema) _ (all_totals_is old.now.schema has.schema) b.totals has.stands.totals2

-- what a query's rows are where this is seen
pub rows_seen : {E : Type 0} (sql : List ℕ) (params : Row) (old new : State) (Sees : Type 0) (P : List Row → Type 0) (r : Result (Vec Answered Global) E) → (IsTrue old.is_open → Sees)
    → ((rows : List Row) → Sees → Shown sql params old new rows → P rows) → IfOk r (λ rows. Shown sql params old new rows.items) → IfOk r (λ rows. P rows.items)
rows_seen sql params old new Sees P r was finds given = IfOk-weaker r _ _ (λ rows shown. finds rows.items (was (shown_open sql params old new rows.items shown)) shown) given

-- what holds where this is seen
pub seen_then : (sql : List ℕ) (old new : State) (Sees P : Type 0) (r : Result (Vec Answered Global) Error) → (IsTrue old.is_open → Sees) → (Sees → P) → IfOk r (λ rows. Shown sql [] old new rows.items) → IfOk r (λ rows. P)
seen_then sql old new Sees P r was then given = IfOk-weaker r _ _ (λ rows shown. then (was (shown_open sql [] old new rows.items shown))) given

-- what they are on held books
pub rows_given : (sql : List ℕ) (old new : State) (is : is_select sql ≡ true) (left : is_select sql ≡ true → Leaves old new) (b : Books) (list : List Row) (r : Result (Vec Answered Global) Error) → HasCleanDisk new → Holds old b
    → ((rows : List Row) → Shows old b → Shown sql [] old new rows → rows ≡ list) → IfOk r (λ rows. Shown sql [] old new rows.items) → IfOk r (λ rows. rows.items ≡ list)
rows_given sql old new is left b list r clean was finds given =
    let before : HasCleanDisk old = let l = (left is).survives.clean in omega (arith, l) in
    rows_seen sql [] old new (Shows old b) (λ rows. rows ≡ list) r (λ up. (was before up).shows) finds given
