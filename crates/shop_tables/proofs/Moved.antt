-- Rows that an INSERT copies from a query, and a table that a DELETE clears.
use Rattle.std.proofs.Common.{◌≡◌, ℕ, ℤ, Bool, true, false, cond, not, ◌||◌, List, [], ◌∷◌, ◌++◌, map, IsTrue, IsPermutation, true≢false, refl, sym, ap, subst, ◌∙◌, append-nil}
use Rattle.std.specs.List.{AllByRecursion, list_any}
use Rattle.std.specs.Ordering.{is_eq}
use Rattle.std.specs.Cmp.{tied_itself}
use Rattle.std.specs.declared.cmp.Ordering.TheVariants.{Equal}
use Rattle.std.proofs.lemmas.Bool.{and_parts, not-true}
use Rattle.std.proofs.lemmas.List.Sorted.{IsPermutation-sym, IsPermutation-middle, IsPermutation-map}
use Rattle.sqlite_value.specs.declared.value.Value.TheVariants.{Null, Int}
use Rattle.sqlite_value.specs.declared.keys.Collation.{Collation}
use Rattle.sqlite_value.specs.Order.{Row, value_cmp}
use Rattle.sqlite_value.proofs.OrderLemmas.{value_cmp_total}
use Rattle.sqlite_trees.specs.Tree.{Trees, rowid, has_rowid, put_row, without_rowid}
use Rattle.sqlite_trees.specs.View.{is_int}
use Rattle.sqlite_trees.proofs.ListLemmas.{all-permutation, all_weaker, pull_back}
use Rattle.sqlite_rules.specs.Edit.{id_in, next_rowid, numbered, put_all, are_fresh, is_taken, without_all}
use Rattle.sqlite_rules.specs.Calls.{ids_of}
use Rattle.sqlite_rules.proofs.TableLemmas.{int_is}
use Rattle.sqlite.specs.Rowids.TheVariants.{Chosen}
use Rattle.sqlite.specs.Term.{Term}
use Rattle.sqlite.specs.Query.{Query}
use Rattle.sqlite.specs.Program.{IsProgramAnswer}
use Rattle.shop_statements.specs.Rows.{AreRows}
use Rattle.shop_statements.proofs.Keys.{reordered}
use Rattle.shop_statements.proofs.Lists.{map-map}
use Rattle.shop_statements.proofs.Puts.{added}
use Rattle.shop_statements.proofs.Terms.{from_table}

-- collations matter to a query of distinct rows alone
abbrev pub collated : Query → List Collation → Query
collated q by = record q { collations = by }

pub uncollated : (tree : ℕ) (tests terms : List Term) (by : List Collation) (db : Trees) (params : Row) (rows : List Row) → IsProgramAnswer [] (collated (from_table tree tests terms []) by) db params rows
    → IsProgramAnswer [] (from_table tree tests terms []) db params rows
uncollated tree tests terms by db params rows h = λ lost.
    let a = h lost in record { staged = a.staged; grouped = a.grouped; kept = a.kept; distinct = a.distinct; ordered = a.ordered; same = a.same; sorted = a.sorted; shown = a.shown }

-- ---- new rows

module _ {E : Type 0} (row_of : E → Row) where
  abbrev pub unnumbered : List E → List Row
  unnumbered es = map (λ e. Null ∷ row_of e) es

  -- rows without a rowid get one in turn
  pub filled : (es : List E) (rows stored : List Row) → AreRows 1 rows stored → are_fresh stored (numbered Chosen stored (unnumbered es)) ≡ true
      → AreRows 1 (map row_of es ++ rows) (put_all stored (numbered Chosen stored (unnumbered es)))
  filled [] rows stored are fresh = are
  filled (e ∷ es) rows stored are fresh =
      let new : Row = Int (next_rowid stored) ∷ row_of e in
      let parts = and_parts (not (is_taken stored new)) (are_fresh (put_row new stored) (numbered Chosen (put_row new stored) (unnumbered es))) fresh in
      reordered 1 _ _ _ (IsPermutation-middle (map row_of es) (row_of e) rows)
      (filled es (row_of e ∷ rows) (put_row new stored) (added 1 new (next_rowid stored) rows stored refl are (not-true _ parts.0)) parts.1)

  -- so do those of a query, in whichever order it gives them
  pub filled_from : (es : List E) (given stored : List Row) → AreRows 1 [] stored → IsPermutation (unnumbered es) given → are_fresh stored (numbered Chosen stored given) ≡ true
      → AreRows 1 (map row_of es) (put_all stored (numbered Chosen stored given))
  filled_from es given stored none same fresh =
      let back = pull_back (λ e. Null ∷ row_of e) _ given same es refl in
      let to = back.0 in
      let whole : AreRows 1 (map row_of to ++ []) (put_all stored (numbered Chosen stored (unnumbered to))) = filled to [] stored none (subst (λ g. are_fresh stored (numbered Chosen stored g) ≡ true) back.2 fresh) in
      subst (λ g. AreRows 1 (map row_of es) (put_all stored (numbered Chosen stored g))) (sym back.2)
      (reordered 1 _ _ _ (IsPermutation-map row_of to es (IsPermutation-sym es to back.1)) (subst (λ rows. AreRows 1 rows (put_all stored (numbered Chosen stored (unnumbered to)))) (append-nil (map row_of to)) whole))

-- ---- no rows

-- one of the rowids is the row's
abbrev Hit : List ℤ → Row → Type 0
Hit ids r = list_any (λ id. has_rowid id r) ids ≡ true

still_hit : (id : ℤ) (ids : List ℤ) (rows : List Row) → AllByRecursion (Hit (id ∷ ids)) rows → AllByRecursion (Hit ids) (without_rowid id rows)
still_hit id ids [] h = tt
still_hit id ids (r ∷ rows) h =
    elim (has_rowid id r) as (λ b. (b || list_any (λ k. has_rowid k r) ids) ≡ true → AllByRecursion (Hit ids) (cond (not b) (r ∷ without_rowid id rows) (without_rowid id rows)))
    [ true ↦ λ _. still_hit id ids rows h.1 | false ↦ λ k. (k, still_hit id ids rows h.1) ] h.0

none_left : (ids : List ℤ) (rows : List Row) → AllByRecursion (Hit ids) rows → without_all rows ids ≡ []
none_left [] [] h = refl
none_left [] (r ∷ rows) h = absurd (true≢false (sym h.0))
none_left (id ∷ ids) rows h = none_left ids (without_rowid id rows) (still_hit id ids rows h)

or_more : (a b : Bool) → b ≡ true → (a || b) ≡ true
or_more true b h = refl
or_more false b h = h

abbrev id_of : Row → ℤ
id_of r = id_in (rowid r)

own_hit : (r : Row) → IsTrue (is_int (rowid r)) → has_rowid (id_of r) r ≡ true
own_hit r int = ap is_eq (subst (λ v. value_cmp (rowid r) v ≡ Equal) (int_is (rowid r) int) (tied_itself value_cmp_total (rowid r)))

all_hit : (rows : List Row) → AllByRecursion (λ r. IsTrue (is_int (rowid r))) rows → AllByRecursion (Hit (map id_of rows)) rows
all_hit [] h = tt
all_hit (r ∷ rows) h =
    (ap (λ b. b || list_any (λ k. has_rowid k r) (map id_of rows)) (own_hit r h.0), all_weaker (Hit (map id_of rows)) (Hit (id_of r ∷ map id_of rows)) (λ x k. or_more (has_rowid (id_of r) x) (list_any (λ k. has_rowid k x) (map id_of rows)) k) rows (all_hit rows h.1))

-- a table is cleared by the rowids of all its rows, in whichever order a query gives them
pub cleared : (stored given : List Row) → AllByRecursion (λ r. IsTrue (is_int (rowid r))) stored → IsPermutation (map (λ r. rowid r ∷ []) stored) given → without_all stored (ids_of given) ≡ []
cleared stored given ints same =
    let back = pull_back (λ r. rowid r ∷ []) _ given same stored refl in
    let to = back.0 in
    let ids : ids_of given ≡ map id_of to = ap ids_of back.2 ∙ map-map id_of (λ r. rowid r ∷ []) to in
    let hits = all-permutation (Hit (map id_of to)) to stored (IsPermutation-sym stored to back.1) (all_hit to (all-permutation (λ r. IsTrue (is_int (rowid r))) stored to back.1 ints)) in
    ap (without_all stored) ids ∙ none_left (map id_of to) stored hits
