-- What a query that counts a table's rows gives, and how many entries there are.
use Rattle.std.proofs.Common.{◌≡◌, ◌<◌, ℕ, pos, negsuc, false, List, [], ◌∷◌, codes, length, drop, map, min, filter, Some, refl, sym, ap, subst, ◌∙◌, arith, true, IsPermutation}
use Rattle.std.specs.List.{AllZip, list_all}
use Rattle.std.specs.FinMap.{entries, len, len-entries}
use Rattle.std.proofs.lemmas.List.{length-map}
use Rattle.std.proofs.lemmas.List.Sorted.{length_permutation}
use Rattle.sqlite_value.specs.declared.keys.Collation.TheVariants.{Binary}
use Rattle.sqlite_value.specs.declared.value.Value.TheVariants.{Int, Null}
use Rattle.sqlite_value.specs.Order.{Row, column}
use Rattle.sqlite_sql.specs.declared.aggregate.AggregateOp.TheVariants.{CountRows}
use Rattle.sqlite_sql.specs.Aggregate.{count}
use Rattle.sqlite_sql.specs.Group.{Aggregate, Grouping, IsSummary, value_over}
use Rattle.sqlite_tied.specs.Compute.{everything}
use Rattle.sqlite.specs.Listing.{understood}
use Rattle.sqlite.specs.Tree.{Trees}
use Rattle.sqlite.specs.Schema.{Schema}
use Rattle.sqlite.specs.State.{State, Shown}
use Rattle.sqlite.specs.Term.{Env, col, eval, holds, lit}
use Rattle.sqlite.specs.Query.{Query, Output, IsAnswer, inner, end, output, page}
use Rattle.sqlite.specs.Program.{IsProgramAnswer, overlay}
use Rattle.sqlite.proofs.Callers.{one_permutation, reads_as}
use Rattle.shop_records.specs.Content.{entry_count}
use Rattle.shop_statements.specs.Layout.{HasShopTables}
use Rattle.shop_statements.specs.Rows.{halt_row, import_row, journal_row, kept_row}
use Rattle.shop_statements.specs.Selecting.{is_select}
use Rattle.shop_statements.specs.Shown.{Books, Shows}
use Rattle.shop_statements.proofs.Lists.{flat_map-cond}
use Rattle.shop_statements.proofs.Terms.{Reads}
use Rattle.shop_statements.proofs.Texts.{shop, shop_is}
use Rattle.shop_tables.proofs.Ordered.{filter_true}

abbrev counts : Aggregate
counts = record { op = CountRows; distinct = false; collation = Binary; argument = lit Null }

abbrev grouping : Grouping
grouping = record { keys = []; collations = []; aggregates = counts ∷ []; having = [] }

-- how many rows a table has
abbrev counting : ℕ → Query
counting tree = record {
  from = inner tree end;
  filter = [];
  group = Some grouping;
  project = col 1 0 ∷ [];
  distinct = false;
  collations = [];
  order = [];
  limit = lit (Int (negsuc 0));
  offset = lit (Int (pos 0));
}

abbrev pub count_text : List ℕ
count_text = codes "SELECT count(*) FROM journal"

pub count_is : (schema : Schema) (h : HasShopTables schema) → Reads (shop schema h) count_text (counting 19) (codes "count(*)" ∷ [])
unfolding understood everything
count_is schema h = record { command = refl; listing = refl; plain = (refl, refl) }

pub count_selects : is_select count_text ≡ true
unfolding everything
count_selects = refl

abbrev pub count_kept_text : List ℕ
count_kept_text = codes "SELECT count(*) FROM kept"

pub count_kept_is : (schema : Schema) (h : HasShopTables schema) → Reads (shop schema h) count_kept_text (counting 11) (codes "count(*)" ∷ [])
unfolding understood everything
count_kept_is schema h = record { command = refl; listing = refl; plain = (refl, refl) }

pub count_kept_selects : is_select count_kept_text ≡ true
unfolding everything
count_kept_selects = refl

abbrev pub count_imports_text : List ℕ
count_imports_text = codes "SELECT count(*) FROM imports"

pub count_imports_is : (schema : Schema) (h : HasShopTables schema) → Reads (shop schema h) count_imports_text (counting 13) (codes "count(*)" ∷ [])
unfolding understood everything
count_imports_is schema h = record { command = refl; listing = refl; plain = (refl, refl) }

pub count_imports_selects : is_select count_imports_text ≡ true
unfolding everything
count_imports_selects = refl

abbrev pub count_halts_text : List ℕ
count_halts_text = codes "SELECT count(*) FROM halts"

pub count_halts_is : (schema : Schema) (h : HasShopTables schema) → Reads (shop schema h) count_halts_text (counting 25) (codes "count(*)" ∷ [])
unfolding understood everything
count_halts_is schema h = record { command = refl; listing = refl; plain = (refl, refl) }

pub count_halts_selects : is_select count_halts_text ≡ true
unfolding everything
count_halts_selects = refl

-- ---- its answer

some_one : {X : Type 0} (x y : X) → Some x ≡ Some y → x ≡ y
some_one x y h = cc

values_are : (order : List Env) (values : Row) → AllZip (λ a v. value_over order a ≡ Some v) (counts ∷ []) values → values ≡ count (length order) ∷ []
values_are order [] h = absurd h
values_are order (v ∷ []) h = ap (λ x. x ∷ []) (some_one _ _ (sym h.0 ∙ ap (λ n. Some (count n)) (length-map order (eval (lit Null)))))
values_are order (v ∷ w ∷ values) h = absurd h.1

one_summary : (order : List Env) (rows : List Row) → AllZip (IsSummary grouping) (order ∷ []) rows → rows ≡ (count (length order) ∷ []) ∷ []
one_summary order [] h = absurd h
one_summary order (r ∷ []) h = ap (λ x. x ∷ []) (h.0.2 ∙ values_are order h.0.0 h.0.1)
one_summary order (r ∷ s ∷ rows) h = absurd h.1

module _ (tree : ℕ) (db : Trees) (params : Row) (low : overlay db [] tree ≡ db tree) where
  abbrev env : Row → Env
  env r = params ∷ r ∷ []

  counts_rows : (rows : List Row) → IsProgramAnswer [] (counting tree) db params rows → rows ≡ (count (length (db tree)) ∷ []) ∷ []
  counts_rows rows h =
      let a : IsAnswer (counting tree) (overlay db []) params rows = h Null in
      let s = a.grouped in
      let order = s.grouping.0 in
      let one = one_summary order s.rows (subst (λ gs. AllZip (IsSummary grouping) gs s.rows) s.grouping.2 s.summaries) in
      let many : length order ≡ length (db tree) =
      length_permutation _ order s.grouping.1 ∙ ap length (flat_map-cond env (λ r. list_all (holds (env r)) []) (overlay db [] tree)) ∙ length-map _ env ∙ ap length (filter_true (overlay db [] tree)) ∙ ap length low in
      let staged : a.staged ≡ env (count (length (db tree)) ∷ []) ∷ [] = s.having ∙ ap (λ rs. filter (λ e. list_all (holds e) []) (map env rs)) (one ∙ ap (λ n. (count n ∷ []) ∷ []) many) in
      let kept : a.kept ≡ ([], count (length (db tree)) ∷ []) ∷ [] = a.distinct ∙ ap (map (output (counting tree))) staged in
      let ordered : a.ordered ≡ ([], count (length (db tree)) ∷ []) ∷ [] = one_permutation _ a.ordered (subst (λ k. IsPermutation k a.ordered) kept a.same) in
      a.shown ∙ ap (λ os. page (counting tree) params (map (λ (o : Output). o.1) os)) ordered

-- ---- of the entries

pub counts_entries : (old new : State) (b : Books) → Shows old b → (rows : List Row) → Shown count_text [] old new rows → rows ≡ (count (entry_count b.content) ∷ []) ∷ []
counts_entries old new b has rows shown =
    let is = count_is old.now.schema has.schema in
    let a = (reads_as count_text [] old new (shop old.now.schema has.schema) (shop_is old.now.schema has.schema) _ is.command is.plain is.listing rows shown).answer in
    let same : length (old.now.trees 19) ≡ entry_count b.content =
    sym (length-map (old.now.trees 19) (drop 0)) ∙ length_permutation _ _ has.stands.journal.same ∙ length-map (entries b.content.entries) journal_row ∙ sym (len-entries b.content.entries) in
    counts_rows 19 old.now.trees [] refl rows a ∙ ap (λ n. (count n ∷ []) ∷ []) same

-- ---- of the messages, the imports and the halts

pub counts_kept : (old new : State) (b : Books) → Shows old b → (rows : List Row) → Shown count_kept_text [] old new rows → rows ≡ (count (len b.content.kept) ∷ []) ∷ []
counts_kept old new b has rows shown =
    let is = count_kept_is old.now.schema has.schema in
    let a = (reads_as count_kept_text [] old new (shop old.now.schema has.schema) (shop_is old.now.schema has.schema) _ is.command is.plain is.listing rows shown).answer in
    let same : length (old.now.trees 11) ≡ len b.content.kept =
    sym (length-map (old.now.trees 11) (drop 1)) ∙ length_permutation _ _ has.stands.kept.same ∙ length-map (entries b.content.kept) kept_row ∙ sym (len-entries b.content.kept) in
    counts_rows 11 old.now.trees [] refl rows a ∙ ap (λ n. (count n ∷ []) ∷ []) same

pub counts_imports : (old new : State) (b : Books) → Shows old b → (rows : List Row) → Shown count_imports_text [] old new rows → rows ≡ (count (len b.content.imports) ∷ []) ∷ []
counts_imports old new b has rows shown =
    let is = count_imports_is old.now.schema has.schema in
    let a = (reads_as count_imports_text [] old new (shop old.now.schema has.schema) (shop_is old.now.schema has.schema) _ is.command is.plain is.listing rows shown).answer in
    let same : length (old.now.trees 13) ≡ len b.content.imports =
    sym (length-map (old.now.trees 13) (drop 1)) ∙ length_permutation _ _ has.stands.imports.same ∙ length-map (entries b.content.imports) import_row ∙ sym (len-entries b.content.imports) in
    counts_rows 13 old.now.trees [] refl rows a ∙ ap (λ n. (count n ∷ []) ∷ []) same

pub counts_halts : (old new : State) (b : Books) → Shows old b → (rows : List Row) → Shown count_halts_text [] old new rows → rows ≡ (count (len b.content.halts) ∷ []) ∷ []
counts_halts old new b has rows shown =
    let is = count_halts_is old.now.schema has.schema in
    let a = (reads_as count_halts_text [] old new (shop old.now.schema has.schema) (shop_is old.now.schema has.schema) _ is.command is.plain is.listing rows shown).answer in
    let same : length (old.now.trees 25) ≡ len b.content.halts =
    sym (length-map (old.now.trees 25) (drop 0)) ∙ length_permutation _ _ has.stands.halts.same ∙ length-map (entries b.content.halts) halt_row ∙ sym (len-entries b.content.halts) in
    counts_rows 25 old.now.trees [] refl rows a ∙ ap (λ n. (count n ∷ []) ∷ []) same

-- a count that isn't the greatest is what was counted
pub counted_is : (n read : ℕ) (row : Row) → row ≡ count n ∷ [] → column row 0 ≡ Int (pos read) → read < 9223372036854775807 → read ≡ n
counted_is n read row is shows small =
    let e : Int (pos (min n 9223372036854775807)) ≡ Int (pos read) = sym (ap (λ r. column r 0) is) ∙ shows in
    let same : min n 9223372036854775807 ≡ read = cc in
    omega (arith, same, small)
