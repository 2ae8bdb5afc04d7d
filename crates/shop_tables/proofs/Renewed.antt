-- The steps that bring tables of version 1 to version 2.
use Rattle.std.proofs.Common.{◌≡◌, ◌≢◌, ℕ, ◌==◌, ◌++◌, take, Some, true, false, List, [], ◌∷◌, drop, map, codes, pos, slice_get, Result, OnOk, IsTrue, IsPermutation, refl, sym, ap, subst, ◌∙◌}
use Rattle.std.specs.List.{AllByRecursion, list_all}
use Rattle.std.specs.FinMap.{entries}
use Rattle.std.specs.Ordering.{eq_by_cmp}
use Rattle.std.proofs.lemmas.List.Sorted.{IsPermutation-map, IsPermutation-refl, IsPermutation-trans}
use Rattle.sqlite_value.specs.Order.{Row, column}
use Rattle.sqlite_value.specs.declared.value.Value.TheVariants.{Null, Int, Text}
use Rattle.sqlite_value.specs.declared.keys.Collation.{Collation}
use Rattle.sqlite_value.specs.declared.keys.Collation.TheVariants.{Binary}
use Rattle.sqlite_trees.specs.Tree.{rowid, without_rowid}
use Rattle.sqlite_trees.specs.View.{is_int}
use Rattle.sqlite_trees.specs.declared.store.Store.{Ghosts}
use Rattle.sqlite_rules.specs.Calls.{ids_of}
use Rattle.sqlite_rules.specs.Edit.{put_all, are_fresh}
use Rattle.sqlite.specs.Edit.{Edit, edit_of, IsNoIndex}
use Rattle.sqlite.specs.Effect.{Database, IsDatabase}
use Rattle.sqlite.specs.Table.{Table}
use Rattle.sqlite.specs.Query.{Query as Reading}
use Rattle.sqlite_catalog.specs.Calls.{KeepsForeign}
use Rattle.sqlite_trees.specs.Objects.{catalog_tree}
use Rattle.sqlite_rules.specs.Action.{works}
use Rattle.sqlite_schema.specs.Names.{table_named}
use Rattle.sqlite_schema.specs.declared.schema.Keys.TheVariants.{Enforced}
use Rattle.sqlite_resolve.specs.Compile.{first}
use Rattle.shop_tables.proofs.Inserted.{ReadsInsert, understood_inserts}
use Rattle.sqlite.specs.Rowids.TheVariants.{Given}
use Rattle.sqlite.specs.Cast.{cast_row}
use Rattle.sqlite.specs.Schema.{Schema}
use Rattle.sqlite.specs.Term.{Term, lit, col, holds}
use Rattle.sqlite.specs.Command.TheVariants.{Update, Delete}
use Rattle.sqlite.specs.Source.TheVariants.{Query}
use Rattle.sqlite.specs.Listing.{understood}
use Rattle.sqlite.specs.State.{State, HasCleanDisk, mode_of}
use Rattle.sqlite.specs.Held.{Held, state}
use Rattle.sqlite.specs.declared.error.Error.{Error}
use Rattle.sqlite.proofs.Callers.{one_permutation, runs_as, statement_of}
use Rattle.sqlite_tied.specs.Compute.{everything}
use Rattle.cut_measure.specs.Codes.{code_cmp}
use Rattle.shop_records.specs.Content.{Content}
use Rattle.shop_records.specs.declared.records.Totals.{Totals}
use Rattle.shop_statements.specs.Layout.{Rests, our_tables, our_trees, meta_table, totals_table, totals2_table}
use Rattle.shop_statements.specs.Rows.{AreOrders, AreRows, meta_row, meta_entries, totals_row}
use Rattle.shop_statements.specs.Shown.{Books}
use Rattle.shop_tables.specs.Adopting.{MakesSecond}
use Rattle.shop_tables.specs.Laying.{AreRun, ClearsTotals, CopiesTotals, Does, IsRun, IsWritten, SetsVersion}
use Rattle.shop_tables.specs.declared.laying.TheConstants.{TOTALS2}
use Rattle.shop_tables.specs.declared.renewing.TheConstants.{CLEAR_TOTALS, COPY_TOTALS, SET_LAST_VERSION, SET_VERSION}
use Rattle.shop_statements.specs.Earlier.{earlier_schema, second_schema, second_entries, earlier_entries, earlier_row, HasNoneReturned, ShowsEarlier, ShowsSecond}
use Rattle.shop_statements.proofs.Finding.{is_word, word_tests, word_later}
use Rattle.shop_statements.proofs.Keys.{cast-Int, cast-Null, located, news_again, shown_as}
use Rattle.shop_tables.proofs.Lays.{totals2_added}
use Rattle.shop_statements.proofs.Lists.{map-map, map-same}
use Rattle.shop_tables.proofs.Making.{IsMadeSecond, made_second_when}
use Rattle.shop_tables.proofs.Moved.{cleared, collated, filled_from, uncollated, unnumbered}
use Rattle.shop_tables.proofs.Ordered.{filter_true}
use Rattle.shop_statements.proofs.Puts.{added}
use Rattle.shop_statements.proofs.Selects.{selects, selected}
use Rattle.shop_statements.proofs.Terms.{Writes, from_table, same}
use Rattle.shop_statements.proofs.Works.{none_works, not_taken, unlike}
use Rattle.shop_statements.proofs.Writes.{IsEdited, bare, copied, deleted, updated}

abbrev copy_terms : List Term
copy_terms = lit Null ∷ col 1 1 ∷ col 1 2 ∷ col 1 3 ∷ col 1 4 ∷ col 1 5 ∷ col 1 6 ∷ col 1 7 ∷ lit (Int (pos 0)) ∷ []

abbrev copy_by : List Collation
copy_by = Binary ∷ Binary ∷ Binary ∷ Binary ∷ Binary ∷ Binary ∷ Binary ∷ Binary ∷ Binary ∷ []

abbrev clear_terms : List Term
clear_terms = col 1 0 ∷ []

abbrev number_tests : List Term
number_tests = same (col 1 1) (lit (Text (codes "version"))) ∷ []

abbrev number_terms : List Term
number_terms = col 1 0 ∷ col 1 0 ∷ col 1 1 ∷ lit (Int (pos 2)) ∷ []

abbrev copy_query : Reading
copy_query = collated (from_table 15 [] copy_terms []) copy_by

-- version 2's totals, wherever they are
abbrev pub totals2_in : ℕ → Table
totals2_in tree = record totals2_table { tree = tree }

-- a schema that has the tables of version 1 in front
abbrev pub led : Schema → List Table → Schema
led base behind = record { tables = take 9 our_tables ++ behind; indexes = base.indexes; views = base.views }

-- no reference acts
abbrev pub Rest : List Table → Type 0
Rest = AllByRecursion (λ t. AllByRecursion Rests t.references)

pub led_rests : (base : Schema) (behind : List Table) → Rest behind → Rest (led base behind).tables
led_rests base behind rests = (tt, (tt, (((refl, refl), tt), (((refl, refl), tt), (tt, (((refl, refl), ((refl, refl), tt)), (tt, (((refl, refl), tt), (((refl, refl), tt), rests)))))))))

copy_reads : (base : Schema) (behind : List Table) (tree : ℕ) → ReadsInsert (led base behind) (codes "totals2") (totals2_in tree) (Query (record { lets = []; body = copy_query })) (first COPY_TOTALS.now)
unfolding everything
copy_reads base behind tree = ((refl, refl, refl, refl), refl, refl)

clear_is : (base : Schema) (behind : List Table) → Writes (led base behind) CLEAR_TOTALS.now (Delete 8 (record { lets = []; body = from_table 15 [] clear_terms [] }))
unfolding understood everything
clear_is base behind = record { command = refl; plain = (refl, refl) }

number_is : (base : Schema) (behind : List Table) → Writes (led base behind) SET_VERSION.now (Update 0 (record { lets = []; body = from_table 0 number_tests number_terms [] }))
unfolding understood everything
number_is base behind = record { command = refl; plain = (refl, refl) }

abbrev last_terms : List Term
last_terms = col 1 0 ∷ col 1 0 ∷ col 1 1 ∷ lit (Int (pos 3)) ∷ []

last_number_is : (base : Schema) (behind : List Table) → Writes (led base behind) SET_LAST_VERSION.now (Update 0 (record { lets = []; body = from_table 0 number_tests last_terms [] }))
unfolding understood everything
last_number_is base behind = record { command = refl; plain = (refl, refl) }

-- the rows of one table were written
pub record IsPut (schema : Schema) (tree : ℕ) (old new : Database) : Type 0 where
  pub schema_is : new.schema ≡ schema
  pub sound : IsDatabase new
  pub texts : KeepsForeign (old.trees catalog_tree) (new.trees catalog_tree)
  pub tables : AllByRecursion (λ t. t.tree ≢ tree → new.trees t.tree ≡ old.trees t.tree) schema.tables
  pub others : (t : ℕ) → t ≢ tree → IsNoIndex schema t → new.trees t ≡ old.trees t

-- ---- one statement over tables of version 2

module _ (base : Schema) (behind : List Table) (rests : Rest behind) (old new : State) (has : old.now.schema ≡ led base behind) where
  abbrev now_is : Schema
  now_is = led base behind

  idle : (tree : ℕ) (olds news : List Row) → works old.now.schema Enforced 0 tree olds news ≡ []
  idle = none_works old.now.schema (subst (λ (s : Schema). Rest s.tables) (sym has) (led_rests base behind rests))

  at_place : (i : ℕ) → slice_get old.now.schema.tables i ≡ slice_get now_is.tables i
  at_place i = ap (λ (s : Schema). slice_get s.tables i) has

  put : (edit : Edit) → IsEdited old.now new.now edit → IsDatabase new.now → KeepsForeign (old.now.trees catalog_tree) (new.now.trees catalog_tree) → IsPut now_is edit.table.tree old.now new.now
  put edit e sound texts = record {
    schema_is = e.schema_is ∙ has;
    sound = sound;
    texts = texts;
    tables = subst (λ (s : Schema). AllByRecursion (λ t. t.tree ≢ edit.table.tree → new.now.trees t.tree ≡ old.now.trees t.tree) s.tables) has e.tables;
    others = λ t far bare. e.others t far (subst (λ s. IsNoIndex s t) (sym has) bare);
  }

  -- ---- the totals are copied

  abbrev zero_row : List ℕ × Totals → Row
  zero_row e = Text e.0 ∷ Int (pos e.1.received) ∷ Int (pos e.1.stock) ∷ Int (pos e.1.rack) ∷ Int (pos e.1.pieces) ∷ Int (pos e.1.kerf) ∷ Int (pos e.1.scrap) ∷ Int (pos 0) ∷ []

  zeros : (es : List (List ℕ × Totals)) → AllByRecursion HasNoneReturned es → map zero_row es ≡ map totals_row es
  zeros [] h = refl
  zeros (e ∷ es) h = λ i. (Text e.0 ∷ Int (pos e.1.received) ∷ Int (pos e.1.stock) ∷ Int (pos e.1.rack) ∷ Int (pos e.1.pieces) ∷ Int (pos e.1.kerf) ∷ Int (pos e.1.scrap) ∷ Int (pos (sym h.0 i)) ∷ []) ∷ zeros es h.1 i

  pub copies : (at tree : ℕ) → table_named now_is (codes "totals2") ≡ Some at → slice_get now_is.tables at ≡ Some (totals2_in tree) → IsRun COPY_TOTALS.now old new
      → IsPut now_is tree old.now new.now
      × ((es : List (List ℕ × Totals)) → AllByRecursion HasNoneReturned es → AreRows 1 (map earlier_row es) (old.now.trees 15) → old.now.trees tree ≡ [] → AreRows 1 (map totals_row es) (new.now.trees tree))
  copies at tree named placed ran =
      let is = understood_inserts now_is (codes "totals2") (totals2_in tree) (Query (record { lets = []; body = copy_query })) refl at named placed COPY_TOTALS.now (copy_reads base behind tree) in
      let w = runs_as COPY_TOTALS.now [] old new now_is has _ is.0 is.1 ran.count ran.executes in
      let u = copied old.step_limit (mode_of old) [] old.now new.now w.tally at (totals2_in tree) (at_place at ∙ placed) (statement_of COPY_TOTALS.now (understood now_is COPY_TOTALS.now)) (record { lets = []; body = copy_query })
      (idle tree) w.changed in
      let given = selected 15 [] copy_terms [] old.now.trees [] refl u.0 (selects 15 [] copy_terms [] old.now.trees [] refl u.0 (uncollated 15 [] copy_terms copy_by old.now.trees [] u.0 u.1.answer)) in
      let e = u.2 in (
        put _ e w.sound w.frozen.texts,
        λ es none are free.
            let whole : IsPermutation (unnumbered zero_row es) u.0 = subst (λ l. IsPermutation (map (λ e. Null ∷ zero_row e) l) u.0) (filter_true es)
            (IsPermutation-trans _ _ _ (shown_as 1 earlier_row (λ _. true) (λ _. true) (λ _. true) (λ r. refl) (λ e. refl) _ (λ d. Null ∷ column d 0 ∷ column d 1 ∷ column d 2 ∷ column d 3 ∷ column d 4 ∷ column d 5 ∷ column d 6 ∷ Int (pos 0) ∷ []) (λ e. Null ∷ zero_row e) later (λ e. refl) es _ are) given) in
            subst (λ rows. AreRows 1 rows (new.now.trees tree)) (zeros es none)
            (subst (AreRows 1 (map zero_row es)) (sym e.rows)
            (filled_from zero_row es (map cast u.0) (old.now.trees tree) (subst (AreRows 1 []) (sym free) (record { same = IsPermutation-refl []; rising = tt; keyed = tt }))
            (subst (λ rows. IsPermutation rows (map cast u.0)) (map-map cast (λ e. Null ∷ zero_row e) es ∙ map-same _ (λ e. Null ∷ zero_row e) cast_is es) (IsPermutation-map cast _ _ whole)) e.fresh)),
      )
    where
      cast : Row → Row
      cast s = cast_row (totals2_in tree) (drop 0 s)

      cast_is : (e : List ℕ × Totals) → cast (Null ∷ zero_row e) ≡ Null ∷ zero_row e
      cast_is e = λ i. cast-Null i ∷ Text e.0 ∷ cast-Int (pos e.1.received) i ∷ cast-Int (pos e.1.stock) i ∷ cast-Int (pos e.1.rack) i ∷ cast-Int (pos e.1.pieces) i ∷ cast-Int (pos e.1.kerf) i ∷ cast-Int (pos e.1.scrap) i ∷ cast-Int (pos 0) i ∷ []

      later : (r : Row) → ◌≡◌ {A = Row} (Null ∷ column r 1 ∷ column r 2 ∷ column r 3 ∷ column r 4 ∷ column r 5 ∷ column r 6 ∷ column r 7 ∷ Int (pos 0) ∷ [])
          (Null ∷ column (drop 1 r) 0 ∷ column (drop 1 r) 1 ∷ column (drop 1 r) 2 ∷ column (drop 1 r) 3 ∷ column (drop 1 r) 4 ∷ column (drop 1 r) 5 ∷ column (drop 1 r) 6 ∷ Int (pos 0) ∷ [])
      later [] = refl
      later (x ∷ d) = refl

  -- ---- the earlier totals go

  pub clears : IsRun CLEAR_TOTALS.now old new → IsPut now_is 15 old.now new.now × (AllByRecursion (λ r. IsTrue (is_int (rowid r))) (old.now.trees 15) → new.now.trees 15 ≡ [])
  clears ran =
      let w = runs_as CLEAR_TOTALS.now [] old new now_is has _ (clear_is base behind).command (clear_is base behind).plain ran.count ran.executes in
      let u = deleted old.step_limit (mode_of old) [] old.now new.now w.tally 8 totals_table (at_place 8) (statement_of CLEAR_TOTALS.now (understood now_is CLEAR_TOTALS.now)) (record { lets = []; body = from_table 15 [] clear_terms [] })
      (idle 15) w.changed in
      let given = selected 15 [] clear_terms [] old.now.trees [] refl u.0 (selects 15 [] clear_terms [] old.now.trees [] refl u.0 u.1.answer) in
      let e = u.2 in (
        put _ e w.sound w.frozen.texts,
        λ ints. e.rows ∙ cleared (old.now.trees 15) u.0 ints (subst (λ l. IsPermutation (map (λ r. rowid r ∷ []) l) u.0) (filter_true (old.now.trees 15)) given),
      )

  -- ---- the version is set

  abbrev wrote : Row
  wrote = meta_row (codes "version", 2)

  abbrev again : Row → Row
  again r = column r 0 ∷ column r 0 ∷ column r 1 ∷ Int (pos 2) ∷ []

  pub numbers : IsRun SET_VERSION.now old new → IsPut now_is 0 old.now new.now × ((m : Content) → AreRows 1 (map meta_row (earlier_entries m)) (old.now.trees 0) → AreRows 1 (map meta_row (second_entries m)) (new.now.trees 0))
  numbers ran =
      let w = runs_as SET_VERSION.now [] old new now_is has _ (number_is base behind).command (number_is base behind).plain ran.count ran.executes in
      let u = updated old.step_limit (mode_of old) [] old.now new.now w.tally 0 meta_table (at_place 0) (statement_of SET_VERSION.now (understood now_is SET_VERSION.now)) (record { lets = []; body = from_table 0 number_tests number_terms [] })
      (idle 0) w.changed in (
        put _ u.2 w.sound w.frozen.texts,
        λ m are.
            let at = located 1 meta_row (λ e. eq_by_cmp code_cmp e.0 (codes "version")) (λ r. list_all (holds ([] ∷ r ∷ [])) number_tests) (is_word (codes "version")) (word_later (codes "version")) (λ e. word_tests e.0 (codes "version") (Int (pos e.1) ∷ [])) (earlier_entries m) (old.now.trees 0) (codes "version", 1) are refl in
            let given = selected 0 number_tests number_terms [] old.now.trees [] refl u.0 (selects 0 number_tests number_terms [] old.now.trees [] refl u.0 u.1.answer) in
            let rows : u.0 ≡ (Int at.id ∷ Int at.id ∷ wrote) ∷ [] = one_permutation _ u.0 (subst (λ l. IsPermutation (map again l) u.0) at.found given) ∙ ap (λ r. r ∷ []) (shown_again at.row at.is ∙ ap (λ v. v ∷ v ∷ wrote) at.key) in
            let e = subst (λ all. IsEdited old.now new.now (edit_of old.now.trees (bare meta_table) (ids_of all) Given 1 all)) rows u.2 in
            let left = without_rowid at.id (old.now.trees 0) in
            let news = news_again meta_table wrote left (Int at.id) at.id (λ i. Text (codes "version") ∷ cast-Int (pos 2) i ∷ []) refl in
            let free = not_taken _ (subst (λ ns. are_fresh left ns ≡ true) news e.fresh) in
            subst (AreRows 1 (map meta_row (second_entries m))) (sym (e.rows ∙ ap (put_all left) news)) (added 1 (Int at.id ∷ wrote) at.id _ _ refl at.rest free),
      )
    where
      shown_again : (r : Row) → drop 1 r ≡ meta_row (codes "version", 1) → again r ≡ rowid r ∷ rowid r ∷ wrote
      shown_again [] is = absurd (cc)
      shown_again (v ∷ r) is = rw is refl

  -- ---- the last version is set

  abbrev last_wrote : Row
  last_wrote = meta_row (codes "version", 3)

  abbrev last_again : Row → Row
  last_again r = column r 0 ∷ column r 0 ∷ column r 1 ∷ Int (pos 3) ∷ []

  pub last_numbers : IsRun SET_LAST_VERSION.now old new → IsPut now_is 0 old.now new.now × ((m : Content) → AreRows 1 (map meta_row (second_entries m)) (old.now.trees 0) → AreRows 1 (map meta_row (meta_entries m)) (new.now.trees 0))
  last_numbers ran =
      let w = runs_as SET_LAST_VERSION.now [] old new now_is has _ (last_number_is base behind).command (last_number_is base behind).plain ran.count ran.executes in
      let u = updated old.step_limit (mode_of old) [] old.now new.now w.tally 0 meta_table (at_place 0) (statement_of SET_LAST_VERSION.now (understood now_is SET_LAST_VERSION.now)) (record { lets = []; body = from_table 0 number_tests last_terms [] })
      (idle 0) w.changed in (
        put _ u.2 w.sound w.frozen.texts,
        λ m are.
            let at = located 1 meta_row (λ e. eq_by_cmp code_cmp e.0 (codes "version")) (λ r. list_all (holds ([] ∷ r ∷ [])) number_tests) (is_word (codes "version")) (word_later (codes "version")) (λ e. word_tests e.0 (codes "version") (Int (pos e.1) ∷ [])) (second_entries m) (old.now.trees 0) (codes "version", 2) are refl in
            let given = selected 0 number_tests last_terms [] old.now.trees [] refl u.0 (selects 0 number_tests last_terms [] old.now.trees [] refl u.0 u.1.answer) in
            let rows : u.0 ≡ (Int at.id ∷ Int at.id ∷ last_wrote) ∷ [] = one_permutation _ u.0 (subst (λ l. IsPermutation (map last_again l) u.0) at.found given) ∙ ap (λ r. r ∷ []) (shown_again at.row at.is ∙ ap (λ v. v ∷ v ∷ last_wrote) at.key) in
            let e = subst (λ all. IsEdited old.now new.now (edit_of old.now.trees (bare meta_table) (ids_of all) Given 1 all)) rows u.2 in
            let left = without_rowid at.id (old.now.trees 0) in
            let news = news_again meta_table last_wrote left (Int at.id) at.id (λ i. Text (codes "version") ∷ cast-Int (pos 3) i ∷ []) refl in
            let free = not_taken _ (subst (λ ns. are_fresh left ns ≡ true) news e.fresh) in
            subst (AreRows 1 (map meta_row (meta_entries m))) (sym (e.rows ∙ ap (put_all left) news)) (added 1 (Int at.id ∷ last_wrote) at.id _ _ refl at.rest free),
      )
    where
      shown_again : (r : Row) → drop 1 r ≡ meta_row (codes "version", 2) → last_again r ≡ rowid r ∷ rowid r ∷ last_wrote
      shown_again [] is = absurd (cc)
      shown_again (v ∷ r) is = rw is refl

-- ---- all of them

abbrev pub texts : List (List ℕ)
texts = TOTALS2.now ∷ COPY_TOTALS.now ∷ CLEAR_TOTALS.now ∷ SET_VERSION.now ∷ []

second_bare : AllByRecursion (IsNoIndex second_schema) (take 10 our_trees)
second_bare = ((unlike 1 0 refl, (unlike 3 0 refl, (unlike 5 0 refl, (unlike 8 0 refl, (unlike 10 0 refl, (unlike 12 0 refl, (unlike 14 0 refl, (unlike 16 0 refl, (unlike 18 0 refl, tt))))))))), ((unlike 1 2 refl, (unlike 3 2 refl, (unlike 5 2 refl, (unlike 8 2 refl, (unlike 10 2 refl, (unlike 12 2 refl, (unlike 14 2 refl, (unlike 16 2 refl, (unlike 18 2 refl, tt))))))))), ((unlike 1 4 refl, (unlike 3 4 refl, (unlike 5 4 refl, (unlike 8 4 refl, (unlike 10 4 refl, (unlike 12 4 refl, (unlike 14 4 refl, (unlike 16 4 refl, (unlike 18 4 refl, tt))))))))), ((unlike 1 6 refl, (unlike 3 6 refl, (unlike 5 6 refl, (unlike 8 6 refl, (unlike 10 6 refl, (unlike 12 6 refl, (unlike 14 6 refl, (unlike 16 6 refl, (unlike 18 6 refl, tt))))))))), ((unlike 1 7 refl, (unlike 3 7 refl, (unlike 5 7 refl, (unlike 8 7 refl, (unlike 10 7 refl, (unlike 12 7 refl, (unlike 14 7 refl, (unlike 16 7 refl, (unlike 18 7 refl, tt))))))))), ((unlike 1 9 refl, (unlike 3 9 refl, (unlike 5 9 refl, (unlike 8 9 refl, (unlike 10 9 refl, (unlike 12 9 refl, (unlike 14 9 refl, (unlike 16 9 refl, (unlike 18 9 refl, tt))))))))), ((unlike 1 11 refl, (unlike 3 11 refl, (unlike 5 11 refl, (unlike 8 11 refl, (unlike 10 11 refl, (unlike 12 11 refl, (unlike 14 11 refl, (unlike 16 11 refl, (unlike 18 11 refl, tt))))))))), ((unlike 1 13 refl, (unlike 3 13 refl, (unlike 5 13 refl, (unlike 8 13 refl, (unlike 10 13 refl, (unlike 12 13 refl, (unlike 14 13 refl, (unlike 16 13 refl, (unlike 18 13 refl, tt))))))))), ((unlike 1 15 refl, (unlike 3 15 refl, (unlike 5 15 refl, (unlike 8 15 refl, (unlike 10 15 refl, (unlike 12 15 refl, (unlike 14 15 refl, (unlike 16 15 refl, (unlike 18 15 refl, tt))))))))), ((unlike 1 17 refl, (unlike 3 17 refl, (unlike 5 17 refl, (unlike 8 17 refl, (unlike 10 17 refl, (unlike 12 17 refl, (unlike 14 17 refl, (unlike 16 17 refl, (unlike 18 17 refl, tt))))))))), tt))))))))))

last_named : table_named second_schema (codes "totals2") ≡ Some 9
unfolding everything
last_named = refl

last_rests : Rest (totals2_table ∷ [])
last_rests = (((refl, refl), tt), tt)

pub written : (schema : Schema) (tree : ℕ) (old new : Database) → IsPut schema tree old new → IsWritten schema tree old new
written schema tree old new put = record { schema_is = put.schema_is; sound = put.sound; others = λ t far bare. put.others t (unlike t tree far) bare }

module _ {S : Type 0} (g : Ghosts S) where
  pub totals_copied : Does g COPY_TOTALS.now second_schema CopiesTotals
  totals_copied old new has ran sums none are free = let it = copies second_schema (totals2_table ∷ []) last_rests (state g old) (state g new) has 9 17 last_named refl ran in (written second_schema 17 _ _ it.0, it.1 (entries sums) none are free)

  pub totals_cleared : Does g CLEAR_TOTALS.now second_schema ClearsTotals
  totals_cleared old new has ran ints = let it = clears second_schema (totals2_table ∷ []) last_rests (state g old) (state g new) has ran in (written second_schema 15 _ _ it.0, it.1 ints)

  pub version_set : Does g SET_VERSION.now second_schema SetsVersion
  version_set old new has ran m are = let it = numbers second_schema (totals2_table ∷ []) last_rests (state g old) (state g new) has ran in (written second_schema 0 _ _ it.0, it.1 m are)

  renews : (old new : Held S) (b : Books) → ShowsEarlier (state g old) b → AreRun g texts old new → IsMadeSecond g old new b
  renews old new b has a1 =
      let s0 = state g old in
      let s1 = state g a1.0 in
      let made = totals2_added g earlier_schema refl old a1.0 has.schema a1.1 in
      let was = made.others in
      let bare = second_bare in
      let a2 = a1.2 in
      let s2 = state g a2.0 in
      let two = totals_copied a1.0 a2.0 made.schema_is a2.1 b.totals has.stands.returned (subst (AreRows 1 _) (sym was.1.1.1.1.1.1.1.1.0) has.stands.totals) made.empty in
      let a3 = a2.2 in
      let s3 = state g a3.0 in
      let old_totals : s2.now.trees 15 ≡ s0.now.trees 15 = two.0.others 15 refl bare.1.1.1.1.1.1.1.1.0 ∙ was.1.1.1.1.1.1.1.1.0 in
      let three = totals_cleared a2.0 a3.0 two.0.schema_is a3.1 (subst (AllByRecursion (λ r. IsTrue (is_int (rowid r)))) (sym old_totals) has.stands.totals.keyed) in
      let a4 = a3.2 in
      let s4 = state g a4.0 in
      let old_meta : s3.now.trees 0 ≡ s0.now.trees 0 = three.0.others 0 refl bare.0 ∙ two.0.others 0 refl bare.0 ∙ was.0 in
      let four = version_set a3.0 a4.0 three.0.schema_is a4.1 b.content (subst (AreRows 1 _) (sym old_meta) has.stands.meta) in
      let along : (t : ℕ) → (t == 0) ≡ false → (t == 15) ≡ false → (t == 17) ≡ false → IsNoIndex second_schema t → s1.now.trees t ≡ s0.now.trees t → s4.now.trees t ≡ s0.now.trees t =
      λ t no_meta no_totals no_new apart was. four.0.others t no_meta apart ∙ three.0.others t no_totals apart ∙ two.0.others t no_new apart ∙ was in
      let shows : ShowsSecond s4 b = record {
        schema = four.0.schema_is;
        sound = four.0.sound;
        stands = record {
          meta = four.1;
          materials = subst (AreRows 1 _) (sym (along 2 refl refl refl bare.1.0 was.1.0)) has.stands.materials;
          parts = subst (AreRows 1 _) (sym (along 4 refl refl refl bare.1.1.0 was.1.1.0)) has.stands.parts;
          jobs = subst (AreRows 0 _) (sym (along 6 refl refl refl bare.1.1.1.0 was.1.1.1.0)) has.stands.jobs;
          orders = subst (AreOrders b.content.orders) (sym (along 7 refl refl refl bare.1.1.1.1.0 was.1.1.1.1.0)) has.stands.orders;
          demands = subst (AreRows 0 _) (sym (along 9 refl refl refl bare.1.1.1.1.1.0 was.1.1.1.1.1.0)) has.stands.demands;
          kept = subst (AreRows 1 _) (sym (along 11 refl refl refl bare.1.1.1.1.1.1.0 was.1.1.1.1.1.1.0)) has.stands.kept;
          imports = subst (AreRows 1 _) (sym (along 13 refl refl refl bare.1.1.1.1.1.1.1.0 was.1.1.1.1.1.1.1.0)) has.stands.imports;
          totals = four.0.others 15 refl bare.1.1.1.1.1.1.1.1.0 ∙ three.1;
          totals2 = subst (AreRows 1 _) (sym (four.0.others 17 refl bare.1.1.1.1.1.1.1.1.1.0 ∙ three.0.others 17 refl bare.1.1.1.1.1.1.1.1.1.0)) two.1;
          none = has.stands.none;
          later = has.stands.later;
        };
        keyed = has.keyed;
        uses = has.uses;
      } in
      subst (λ (x : Held S). IsMadeSecond g old x b) (sym a4.2) (record { was_open = a1.1.was_open; is_open = a4.1.is_open; inside = a4.1.inside; shows = shows })

  pub renews_when : (old new : Held S) (b : Books) (r : Result (Unit {0}) Error) → (HasCleanDisk (state g old) → IsTrue (state g old).is_open → ShowsEarlier (state g old) b) → (HasCleanDisk (state g new) → HasCleanDisk (state g old)) → (HasCleanDisk (state g new) → OnOk r (AreRun g texts old new))
      → OnOk r (MakesSecond (state g old) (state g new) b)
  renews_when old new b r has earlier ran = made_second_when g texts old new b r earlier ran (λ clean a1. renews old new b (has (earlier clean) a1.1.was_open) a1)
