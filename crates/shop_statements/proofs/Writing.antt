-- What an INSERT of one row, an UPDATE of one row and a DELETE make of a table.
use Rattle.std.proofs.Common.{◌≡◌, ℕ, ℤ, ◌/◌, ◌==◌, Bool, true, false, List, [], ◌∷◌, length, map, drop, filter, slice_get, Some, None, Ok, Err, Result, OnOk, refl, sym, ap, subst, ◌∙◌, IsPermutation}
use Rattle.std.specs.List.{list_all}
use Rattle.std.specs.declared.cmp.Ordering.{Ordering}
use Rattle.std.specs.Cmp.{IsTotalOrder}
use Rattle.std.specs.Ordering.{eq_by_cmp}
use Rattle.std.specs.Prelude.{Option}
use Rattle.std.specs.FinMap.{FinMap, IsAntisymmetric, entries, get, insert, remove}
use Rattle.std.proofs.lemmas.List.Sorted.{IsPermutation-map}
use Rattle.sqlite_value.specs.declared.value.Value.TheVariants.{Int}
use Rattle.sqlite_value.specs.Order.{Row}
use Rattle.sqlite_trees.specs.Tree.{rowid, put_row, without_rowid}
use Rattle.sqlite.specs.Table.{Table}
use Rattle.sqlite.specs.Schema.{Schema}
use Rattle.sqlite.specs.Term.{Term, col, holds}
use Rattle.sqlite.specs.Query.{output}
use Rattle.sqlite.specs.Program.{overlay}
use Rattle.sqlite.specs.Command.TheVariants.{Delete, Insert, Update}
use Rattle.sqlite.specs.Source.TheVariants.{Values}
use Rattle.sqlite.specs.Rowids.TheVariants.{Chosen, Given}
use Rattle.sqlite.specs.Cast.{cast_row}
use Rattle.sqlite.specs.Edit.{edit_of, are_fresh, IsNoIndex}
use Rattle.sqlite.specs.Effect.{IsDatabase, value_rows}
use Rattle.sqlite.specs.Listing.{understood}
use Rattle.sqlite.specs.State.{State, mode_of, Executes}
use Rattle.sqlite_rules.specs.Calls.{ids_of}
use Rattle.sqlite_rules.specs.Edit.{id_in, is_taken, put_all, numbered, without_all}
use Rattle.sqlite.proofs.Callers.{runs_as, statement_of, one_permutation}
use Rattle.shop_statements.specs.Layout.{HasShopTables}
use Rattle.shop_statements.specs.Rows.{AreRows}
use Rattle.shop_statements.specs.Shown.{Books, Shows, Makes, HasExecuted}
use Rattle.shop_statements.proofs.Terms.{from_table, Writes}
use Rattle.shop_statements.proofs.Texts.{shop, shop_is}
use Rattle.shop_statements.proofs.Selects.{selects, selected}
use Rattle.shop_statements.proofs.Writes.{deleted, inserted, updated, bare, IsEdited}
use Rattle.shop_statements.proofs.Works.{no_works, not_taken, unlike}
use Rattle.shop_statements.proofs.Keys.{Located, located, matched, none_permutation, reordered}
use Rattle.shop_statements.proofs.Puts.{added}
use Rattle.shop_statements.proofs.Maps.{entry_at_is, insert_new, insert_over, left_out, listed, others, removed}

-- one table changed, and no other
pub record IsAlone (old new : State) (tree : ℕ) : Type 0 where
  pub schema_is : new.now.schema ≡ old.now.schema
  pub sound : IsDatabase new.now
  pub others : (t : ℕ) → (t == tree) ≡ false → IsNoIndex old.now.schema t → new.now.trees t ≡ old.now.trees t

-- one row of a table is new, or written in place of the one with its rowid; all else is as it was
pub record IsPut (old new : State) (tree : ℕ) (left : List Row) (row : Row) : Type 0 where
  pub schema_is : new.now.schema ≡ old.now.schema
  pub sound : IsDatabase new.now
  pub rows : new.now.trees tree ≡ put_row row left
  pub free : is_taken left row ≡ false
  pub others : (t : ℕ) → (t == tree) ≡ false → IsNoIndex old.now.schema t → new.now.trees t ≡ old.now.trees t

pub alone : {old new : State} {tree : ℕ} {left : List Row} {row : Row} → IsPut old new tree left row → IsAlone old new tree
alone put = record { schema_is = put.schema_is; sound = put.sound; others = put.others }

module _ (old new : State) (h : HasShopTables old.now.schema) (text : List ℕ) (params : Row) (at : ℕ) (base : Table) (placed : slice_get (shop old.now.schema h).tables at ≡ Some (bare base)) where
  there : slice_get old.now.schema.tables at ≡ Some (bare base)
  there = ap (λ (s : Schema). slice_get s.tables at) (shop_is old.now.schema h) ∙ placed

  module _ (terms : List Term) (width : ℕ) (is : Writes (shop old.now.schema h) text (Insert at (Values terms width))) where
    pub puts : (row : Row) (count : ℕ) → numbered Chosen (old.now.trees base.tree) (map (λ s. cast_row (bare base) (drop 0 s)) (value_rows params width (length terms / width) terms)) ≡ row ∷ []
        → Executes text params old new (Ok count) → IsPut old new base.tree (old.now.trees base.tree) row
    puts row count news ran =
        let w = runs_as text params old new (shop old.now.schema h) (shop_is old.now.schema h) _ is.command is.plain count ran in
        let e = inserted old.step_limit (mode_of old) params old.now new.now w.tally at base there (statement_of text (understood (shop old.now.schema h) text)) terms width w.changed in
        record {
          schema_is = e.schema_is;
          sound = w.sound;
          rows = e.rows ∙ ap (put_all (old.now.trees base.tree)) news;
          free = not_taken _ (subst (λ ns. are_fresh (old.now.trees base.tree) ns ≡ true) news e.fresh);
          others = λ t far. e.others t (unlike t base.tree far);
        }

  module _ (tests terms : List Term) (is : Writes (shop old.now.schema h) text (Update at (record { lets = []; body = from_table base.tree tests terms [] }))) (low : overlay old.now.trees [] base.tree ≡ old.now.trees base.tree) where
    abbrev pub again : Row → Row
    again r = (output (from_table base.tree tests terms []) (params ∷ r ∷ [])).1

    abbrev pub chosen : Row → Bool
    chosen r = list_all (holds (params ∷ r ∷ [])) tests

    pub sets : (row : Row) (id : ℤ) (wrote : Row) (count : ℕ) → filter chosen (old.now.trees base.tree) ≡ row ∷ [] → again row ≡ Int id ∷ Int id ∷ wrote
        → ((left : List Row) → numbered Given left (map (λ s. cast_row (bare base) (drop 1 s)) ((Int id ∷ Int id ∷ wrote) ∷ [])) ≡ (Int id ∷ wrote) ∷ [])
        → Executes text params old new (Ok count) → IsPut old new base.tree (without_rowid id (old.now.trees base.tree)) (Int id ∷ wrote)
    sets row id wrote count one shown news ran =
        let db = old.now.trees in
        let w = runs_as text params old new (shop old.now.schema h) (shop_is old.now.schema h) _ is.command is.plain count ran in
        let u = updated old.step_limit (mode_of old) params old.now new.now w.tally at base there (statement_of text (understood (shop old.now.schema h) text)) (record { lets = []; body = from_table base.tree tests terms [] }) (no_works old.now.schema h base.tree) w.changed in
        let given = selected base.tree tests terms [] db params low u.0 (selects base.tree tests terms [] db params low u.0 (u.1).answer) in
        let rows : u.0 ≡ (Int id ∷ Int id ∷ wrote) ∷ [] = one_permutation _ u.0 (subst (λ l. IsPermutation (map again l) u.0) one given) ∙ ap (λ r. r ∷ []) shown in
        let e = subst (λ all. IsEdited old.now new.now (edit_of db (bare base) (ids_of all) Given 1 all)) rows u.2 in
        let left = without_rowid id (db base.tree) in
        record {
          schema_is = e.schema_is;
          sound = w.sound;
          rows = e.rows ∙ ap (put_all left) (news left);
          free = not_taken _ (subst (λ ns. are_fresh left ns ≡ true) (news left) e.fresh);
          others = λ t far. e.others t (unlike t base.tree far);
        }

  module _ (tests : List Term) (is : Writes (shop old.now.schema h) text (Delete at (record { lets = []; body = from_table base.tree tests (col 1 0 ∷ []) [] }))) (low : overlay old.now.trees [] base.tree ≡ old.now.trees base.tree) where
    abbrev pub taken : Row → Bool
    taken r = list_all (holds (params ∷ r ∷ [])) tests

    -- the rows that pass, by their rowids, are taken out
    pub record IsCleared : Type 0 where
      pub ids : List Row
      pub given : IsPermutation (map (λ r. rowid r ∷ []) (filter taken (old.now.trees base.tree))) ids
      pub rows : new.now.trees base.tree ≡ without_all (old.now.trees base.tree) (ids_of ids)
      pub alone : IsAlone old new base.tree

    pub clears : (count : ℕ) → Executes text params old new (Ok count) → IsCleared
    clears count ran =
        let db = old.now.trees in
        let w = runs_as text params old new (shop old.now.schema h) (shop_is old.now.schema h) _ is.command is.plain count ran in
        let u = deleted old.step_limit (mode_of old) params old.now new.now w.tally at base there (statement_of text (understood (shop old.now.schema h) text)) (record { lets = []; body = from_table base.tree tests (col 1 0 ∷ []) [] }) (no_works old.now.schema h base.tree) w.changed in
        let e = u.2 in
        record {
          ids = u.0;
          given = selected base.tree tests (col 1 0 ∷ []) [] db params low u.0 (selects base.tree tests (col 1 0 ∷ []) [] db params low u.0 (u.1).answer);
          rows = e.rows;
          alone = record { schema_is = e.schema_is; sound = w.sound; others = λ t far. e.others t (unlike t base.tree far) };
        }

-- ---- rows of a map

no_map : {A B : Type 0} (f : A → B) (xs : List A) → map f xs ≡ [] → xs ≡ []
no_map f [] h = refl
no_map f (x ∷ xs) h = absurd (cc)

module _ {K X : Type 0} {R : K → K → Ordering} (o : IsTotalOrder R) (same : IsAntisymmetric R) (skip : ℕ) (row_of : K × X → Row) where
  pub rows_with : (old new : State) (tree : ℕ) (row : Row) (n : ℤ) (m : FinMap R X) (k : K) (x : X) → get m k ≡ None → rowid row ≡ Int n → drop skip row ≡ row_of (k, x)
      → AreRows skip (map row_of (entries m)) (old.now.trees tree) → IsPut old new tree (old.now.trees tree) row → AreRows skip (map row_of (entries (insert m k x))) (new.now.trees tree)
  rows_with old new tree row n m k x fresh key is are put =
      subst (AreRows skip _) (sym put.rows)
      (reordered skip _ _ _ (IsPermutation-map row_of _ _ (insert_new X o same m k x fresh))
      (subst (λ r. AreRows skip (r ∷ map row_of (entries m)) (put_row row (old.now.trees tree))) is (added skip row n _ _ key are put.free)))

  pub rows_over : (old new : State) (tree : ℕ) (p : Row → Bool) (wrote : Row) (m : FinMap R X) (k : K) (x d : X) → get m k ≡ Some d
      → (it : Located skip row_of p (k, d) (others X o same k (entries m)) (old.now.trees tree)) → drop skip (Int it.id ∷ wrote) ≡ row_of (k, x)
      → IsPut old new tree (without_rowid it.id (old.now.trees tree)) (Int it.id ∷ wrote) → AreRows skip (map row_of (entries (insert m k x))) (new.now.trees tree)
  rows_over old new tree p wrote m k x d there it is put =
      subst (AreRows skip _) (sym put.rows)
      (reordered skip _ _ _ (IsPermutation-map row_of _ _ (insert_over X o same m k x d there))
      (subst (λ r. AreRows skip (r ∷ map row_of (others X o same k (entries m))) (put_row (Int it.id ∷ wrote) (without_rowid it.id (old.now.trees tree)))) is
      (added skip (Int it.id ∷ wrote) it.id _ _ refl it.rest put.free)))

  -- those under a key are taken out
  pub rows_without : (stored : List Row) (p q : Row → Bool) → ((r : Row) → p r ≡ q (drop skip r)) → (m : FinMap R X) (k : K) → ((e : K × X) → q (row_of e) ≡ eq_by_cmp R e.0 k) → AreRows skip (map row_of (entries m)) stored
      → (ids : List Row) → IsPermutation (map (λ r. rowid r ∷ []) (filter p stored)) ids → AreRows skip (map row_of (entries (remove m k))) (without_all stored (ids_of ids))
  rows_without stored p q later m k tests are ids given = subst (λ es. AreRows skip (map row_of es) (without_all stored (ids_of ids))) (sym (removed X o same m k)) (by (get m k) refl)
    where
      by : (found : Option X) → get m k ≡ found → AreRows skip (map row_of (others X o same k (entries m))) (without_all stored (ids_of ids))
      by None e =
          let none : filter (λ d. eq_by_cmp R d.0 k) (entries m) ≡ [] = entry_at_is X o same m k ∙ ap (listed X o same k) e in
          let passed : map (drop skip) (filter p stored) ≡ [] =
          none_permutation _ (subst (λ es. IsPermutation (map row_of es) (map (drop skip) (filter p stored))) none (matched skip row_of (λ d. eq_by_cmp R d.0 k) p q later tests (entries m) stored are)) in
          let no_row : filter p stored ≡ [] = no_map (drop skip) (filter p stored) passed in
          let no_id : ids ≡ [] = none_permutation ids (subst (λ l. IsPermutation (map (λ r. rowid r ∷ []) l) ids) no_row given) in
          subst (λ l. AreRows skip (map row_of (others X o same k (entries m))) (without_all stored (ids_of l))) (sym no_id) (subst (λ es. AreRows skip (map row_of es) stored) (sym (left_out X o same k (entries m) none)) are)
      by (Some d) e =
          let one : filter (λ c. eq_by_cmp R c.0 k) (entries m) ≡ (k, d) ∷ [] = entry_at_is X o same m k ∙ ap (listed X o same k) e in
          let it = located skip row_of (λ c. eq_by_cmp R c.0 k) p q later tests (entries m) stored (k, d) are one in
          let one_id : ids ≡ (rowid it.row ∷ []) ∷ [] = one_permutation _ ids (subst (λ l. IsPermutation (map (λ r. rowid r ∷ []) l) ids) it.found given) in
          let is : ids_of ids ≡ it.id ∷ [] = ap ids_of one_id ∙ ap (λ v. id_in v ∷ []) it.key in
          subst (λ l. AreRows skip (map row_of (others X o same k (entries m))) (without_all stored l)) (sym is) it.rest

-- what a statement makes of shown books
pub makes : {E : Type 0} (sql : List ℕ) (params : Row) (old new : State) (b after : Books) (r : Result (Unit {0}) E) → OnOk r (HasExecuted sql params old new)
    → ((count : ℕ) → Shows old b → Executes sql params old new (Ok count) → Shows new after) → OnOk r (Makes old new b after)
makes sql params old new b after (Ok x) ran next = λ clean inside has. let run = ran clean inside in next run.0 has run.1
makes sql params old new b after (Err e) ran next = tt
