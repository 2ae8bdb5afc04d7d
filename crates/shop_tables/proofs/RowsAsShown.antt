-- What the queries that list rows show, whatever rows are in the tables.
use Rattle.std.proofs.Common.{◌≡◌, ◌+◌, ℕ, pos, Bool, true, List, [], ◌∷◌, ◌++◌, map, filter, Option, Some, None, Ok, Err, Result, Vec, IfOk, IsErr, refl, sym, ap, subst, ◌∙◌, arith, codes, IsPermutation, IsSorted}
use Rattle.std.specs.List.{list_all}
use Rattle.std.specs.Option.{option_to_list}
use Rattle.std.specs.declared.cmp.Ordering.{Ordering}
use Rattle.std.specs.declared.cmp.Ordering.TheVariants.{Equal}
use Rattle.std.proofs.lemmas.List.Sorted.{IsPermutation-sym}
use Rattle.std.proofs.lemmas.List.{get_or-map, length-map, take-map}
use Rattle.sqlite_value.specs.declared.keys.Key.{Key}
use Rattle.sqlite_value.specs.declared.value.Value.TheVariants.{Int, Text}
use Rattle.sqlite_value.specs.Order.{Row, column}
use Rattle.sqlite_trees.proofs.ListLemmas.{pull_back}
use Rattle.sqlite.specs.Tree.{Trees}
use Rattle.sqlite.specs.Term.{Term, col, eval, holds, lit}
use Rattle.sqlite.specs.Query.{Query, Output, as_count, limited, output, output_cmp}
use Rattle.sqlite.specs.Program.{overlay, IsProgramAnswer}
use Rattle.sqlite.specs.Schema.{Schema}
use Rattle.std.specs.declared.alloc.Global.{Global}
use Rattle.std.proofs.lemmas.Result.{IfOk-from_err, IfOk-weaker}
use Rattle.sqlite.specs.declared.rows.Row.{Row as Answered}
use Rattle.sqlite.specs.State.{State, HasCleanDisk, Shown}
use Rattle.shop_statements.specs.Selecting.{is_select}
use Rattle.shop_statements.specs.Shown.{Books, GivesRow, Leaves, Shows}
use Rattle.shop_statements.proofs.Kept.{shown_open}
use Rattle.sqlite.proofs.Callers.{reads_as}
use Rattle.shop_records.specs.declared.records.Demand.{Demand}
use Rattle.shop_records.specs.declared.records.Material.{Material}
use Rattle.shop_statements.specs.declared.faults.TableFault.{TableFault}
use Rattle.shop_statements.specs.Found.{are_equal, columns_of}
use Rattle.shop_statements.specs.Rows.{demand_columns, material_columns}
use Rattle.shop_statements.specs.Layout.{HasShopTables}
use Rattle.shop_statements.proofs.Keys.{and_true, none_permutation}
use Rattle.shop_statements.proofs.Lists.{map-map}
use Rattle.shop_statements.proofs.Selects.{selects}
use Rattle.shop_statements.proofs.Terms.{Reads, from_table}
use Rattle.sqlite_tied.specs.Compute.{everything}
use Rattle.sqlite.specs.Listing.{understood}
use Rattle.shop_statements.specs.Earlier.{second_schema}
use Rattle.shop_statements.proofs.Texts.{shop, shop_is}
use Rattle.shop_tables.specs.ListedRows.{listed_demand, listed_material, number_row}
use Rattle.shop_tables.specs.RowsShown.{AreLastRows, AreMaterialRows, AreNoteRows, AreOrderRows, AreShown, GivesRows, by_columns}
use Rattle.shop_tables.proofs.Firsts.{first_answer}
use Rattle.shop_tables.proofs.FirstRows.{held_given}
use Rattle.shop_tables.proofs.ListTexts.{all_codes_terms, all_materials_is, all_materials_terms, all_materials_text, all_notes_is, all_notes_terms, all_notes_text, by_code, falling, first_of, first_orders_is, first_orders_text, last_number_is, last_number_terms, last_number_tests, last_number_text, old_totals_is, old_totals_terms, old_totals_text}

-- ---- a query on one table

pub sorted_from : {A B : Type 0} (cmp : B → B → Ordering) (f : A → B) (xs : List A) → IsSorted cmp (map f xs) → IsSorted (λ a b. cmp (f a) (f b)) xs
sorted_from cmp f xs up k d low inside = rw (get_or-map f xs (k + 1) d (f d) inside, get_or-map f xs k d (f d) (omega arith)) at (up k (f d) low (rw length-map inside))

module _ (tree : ℕ) (tests terms : List Term) (order : List (Term × Key)) (db : Trees) (params : Row) (low : overlay db [] tree ≡ db tree) where
  abbrev asked : Query
  asked = from_table tree tests terms order

  abbrev out : Row → Output
  out r = output asked (params ∷ r ∷ [])

  module _ (shown : Row → Row) (by : Row → Row → Ordering) (passes : Row → Bool) (tested : (r : Row) → list_all (holds (params ∷ r ∷ [])) tests ≡ passes r)
      (ordered : (a b : Row) → output_cmp asked (out a) (out b) ≡ by a b) (shows : (r : Row) → (out r).1 ≡ shown r) where
    pub shown_whole : (rows : List Row) → IsProgramAnswer [] asked db params rows → AreShown shown by None passes (db tree) rows
    shown_whole rows a =
        let s = selects tree tests terms order db params low rows a in
        let back = pull_back out _ s.ordered s.same (filter (λ r. list_all (holds (params ∷ r ∷ [])) tests) (db tree)) refl in
        record {
          rows = back.0;
          same = subst (λ (p : Row → Bool). IsPermutation (filter p (db tree)) back.0) (λ i r. tested r i) back.1;
          sorted = subst (λ (cmp : Row → Row → Ordering). IsSorted cmp back.0) (λ i x y. ordered x y i) (sorted_from (output_cmp asked) out back.0 (subst (IsSorted (output_cmp asked)) back.2 s.sorted));
          are = s.shown ∙ ap (map (λ (o : Output). o.1)) back.2 ∙ map-map (λ (o : Output). o.1) out back.0 ∙ (λ i. map (λ r. shows r i) back.0);
        }

    pub shown_first : (most : Term) (n : ℕ) → as_count (eval most (params ∷ [])) ≡ Some n → (rows : List Row) → IsProgramAnswer [] (first_of most asked) db params rows → AreShown shown by (Some n) passes (db tree) rows
    shown_first most n counts rows a =
        let first = first_answer tree tests terms order most db params rows a in
        let all = shown_whole first.0 first.1 in
        record { rows = all.rows; same = all.same; sorted = all.sorted; are = first.2 ∙ (λ i. limited (counts i) (all.are i)) ∙ take-map shown n all.rows }

-- ---- tests

-- of one row at most
first_row : (shown : Row → Row) (rows : List Row) → (o : Option Row) × (map shown (limited (Some 1) rows) ≡ option_to_list o)
first_row shown [] = (None, refl)
first_row shown (row ∷ rows) = (Some (shown row), refl)

-- one of them is shown where there are any, and none else
abbrev IsNothing : List Row → List Row → Type 0
IsNothing given stored = (given ≡ [] → stored ≡ []) × (stored ≡ [] → given ≡ [])

all_rows : (stored : List Row) → filter (λ _. true) stored ≡ stored
all_rows [] = refl
all_rows (row ∷ stored) = ap (λ rows. row ∷ rows) (all_rows stored)

nothing_shown : (shown : Row → Row) (stored given : List Row) → AreShown shown (λ a b. Equal) (Some 1) (λ _. true) stored given → IsNothing given stored
nothing_shown shown stored given are =
    let same : IsPermutation stored are.rows = subst (λ rows. IsPermutation rows are.rows) (all_rows stored) are.same in (
      λ none. none_permutation stored (IsPermutation-sym _ _ (subst (IsPermutation stored) (unshown are.rows (sym are.are ∙ none)) same)),
      λ none. are.are ∙ ap (λ rows. map shown (limited (Some 1) rows)) (none_permutation are.rows (subst (λ rows. IsPermutation rows are.rows) none same)),
    )
  where
    unshown : (rows : List Row) → map shown (limited (Some 1) rows) ≡ [] → rows ≡ []
    unshown [] h = refl
    unshown (row ∷ rows) h = absurd (cc)

-- ---- what each list shows

module _ (old new : State) (h : HasShopTables old.now.schema) where
  abbrev over : Schema
  over = shop old.now.schema h

  pub materials_shown : (rows : List Row) → Shown all_materials_text [] old new rows → AreMaterialRows (old.now.trees 2) rows
  materials_shown rows shown =
      let is = all_materials_is old.now.schema h in
      shown_whole 2 [] all_materials_terms by_code old.now.trees [] refl _ (by_columns (1 ∷ [])) (λ _. true) (λ r. refl) (λ a b. refl) (λ r. refl) rows
      (reads_as all_materials_text [] old new over (shop_is old.now.schema h) _ is.command is.plain is.listing rows shown).answer

  pub notes_shown : (rows : List Row) → Shown all_notes_text [] old new rows → AreNoteRows (old.now.trees 22) rows
  notes_shown rows shown =
      let is = all_notes_is old.now.schema h in
      shown_whole 22 [] all_notes_terms by_code old.now.trees [] refl _ (by_columns (1 ∷ [])) (λ _. true) (λ r. refl) (λ a b. refl) (λ r. refl) rows
      (reads_as all_notes_text [] old new over (shop_is old.now.schema h) _ is.command is.plain is.listing rows shown).answer

  pub first_orders_shown : (most : ℕ) (rows : List Row) → Shown first_orders_text (Int (pos most) ∷ []) old new rows → AreOrderRows most (old.now.trees 7) rows
  first_orders_shown most rows shown =
      let is = first_orders_is old.now.schema h in
      shown_first 7 [] all_codes_terms by_code old.now.trees (Int (pos most) ∷ []) refl _ (by_columns (1 ∷ [])) _ (λ r. refl) (λ a b. refl) (λ r. refl) (col 0 0) most refl rows
      (reads_as first_orders_text (Int (pos most) ∷ []) old new over (shop_is old.now.schema h) _ is.command is.plain is.listing rows shown).answer

  last_numbers_shown : (terminal : ℕ) (rows : List Row) → Shown last_number_text (Int (pos terminal) ∷ []) old new rows → AreLastRows terminal (old.now.trees 11) rows
  last_numbers_shown terminal rows shown =
      let is = last_number_is old.now.schema h in
      let params = Int (pos terminal) ∷ [] in
      shown_first 11 last_number_tests last_number_terms (falling 2) old.now.trees params refl _ (λ a b. by_columns (2 ∷ []) b a) _ (λ r. and_true (are_equal (column r 1) (Int (pos terminal)))) (λ a b. refl) (λ r. refl) (lit (Int (pos 1))) 1 refl rows
      (reads_as last_number_text params old new over (shop_is old.now.schema h) _ is.command is.plain is.listing rows shown).answer

  -- the row that the query gave
  pub last_row_shown : (terminal : ℕ) (row : Option Row) → GivesRow last_number_text (Int (pos terminal) ∷ []) old new row → AreLastRows terminal (old.now.trees 11) (option_to_list row)
  last_row_shown terminal row given =
      let are = last_numbers_shown terminal given.rows given.shown in
      let one = first_row (columns_of 1 2) are.rows in
      subst (AreLastRows terminal (old.now.trees 11)) (are.are ∙ one.1 ∙ sym (ap option_to_list (given.only one.0 (are.are ∙ one.1)))) are

  -- whether there is a row of version 1's totals
  pub old_totals_shown : (rows : List Row) → Shown old_totals_text [] old new rows → IsNothing rows (old.now.trees 15)
  old_totals_shown rows shown =
      let is = old_totals_is old.now.schema h in
      nothing_shown (columns_of 1 1) (old.now.trees 15) rows
      (shown_first 15 [] old_totals_terms [] old.now.trees [] refl _ (λ a b. Equal) _ (λ r. refl) (λ a b. refl) (λ r. refl) (lit (Int (pos 1))) 1 refl rows
      (reads_as old_totals_text [] old new over (shop_is old.now.schema h) _ is.command is.plain is.listing rows shown).answer)

second_totals_is : Reads second_schema old_totals_text (first_of (lit (Int (pos 1))) (from_table 15 [] old_totals_terms [])) (codes "material" ∷ [])
unfolding understood everything
second_totals_is = record { command = refl; listing = refl; plain = (refl, refl) }

-- the same over tables of version 2
pub second_totals_shown : (old new : State) → old.now.schema ≡ second_schema → (rows : List Row) → Shown old_totals_text [] old new rows → IsNothing rows (old.now.trees 15)
second_totals_shown old new has rows shown =
    let is = second_totals_is in
    nothing_shown (columns_of 1 1) (old.now.trees 15) rows
    (shown_first 15 [] old_totals_terms [] old.now.trees [] refl _ (λ a b. Equal) _ (λ r. refl) (λ a b. refl) (λ r. refl) (lit (Int (pos 1))) 1 refl rows
    (reads_as old_totals_text [] old new second_schema has _ is.command is.plain is.listing rows shown).answer)

-- ---- a query of rows

module _ (sql : List ℕ) (params : Row) (old new : State) (of_books : Books → List Row → Type 0) (of_tables : Trees → List Row → Type 0) where
  pub gives : {E : Type 0} (r : Result (Vec Answered Global) E) → is_select sql ≡ true → (is_select sql ≡ true → Leaves old new) → (HasCleanDisk new → IfOk r (λ rows. Shown sql params old new rows.items))
      → ((b : Books) → Shows old b → (rows : List Row) → Shown sql params old new rows → of_books b rows) → (HasShopTables old.now.schema → (rows : List Row) → Shown sql params old new rows → of_tables old.now.trees rows)
      → GivesRows old new r of_books of_tables
  gives r is left shown books tables = record {
    rows = λ clean b was. held_given sql params old new is left b (of_books b) r clean was (λ rows has given. books b has rows given) (shown clean);
    stands = λ clean h. IfOk-weaker r _ _ (λ rows given. tables h rows.items given) (shown clean);
    was_open = λ clean. IfOk-weaker r _ _ (λ rows given. shown_open sql params old new rows.items given) (shown clean);
    leaves = left is;
  }

-- nothing was answered
pub gives_none : {E : Type 0} (r : Result (Vec Answered Global) E) (old new : State) (of_books : Books → List Row → Type 0) (of_tables : Trees → List Row → Type 0) → IsErr r → Leaves old new → GivesRows old new r of_books of_tables
gives_none r old new of_books of_tables none left = record {
  rows = λ clean b was. IfOk-from_err r _ none;
  stands = λ clean h. IfOk-from_err r _ none;
  was_open = λ clean. IfOk-from_err r _ none;
  leaves = left;
}

-- ---- from rows to values

-- what was shown, read whole, was shown
pub shown_read : (cut shown : Row → Row) → ((r : Row) → cut (shown r) ≡ shown r) → (by : Row → Row → Ordering) (most : Option ℕ) (passes : Row → Bool) (stored rows read : List Row) → AreShown shown by most passes stored rows → map cut rows ≡ read
    → AreShown shown by most passes stored read
shown_read cut shown whole by most passes stored rows read s is =
    subst (AreShown shown by most passes stored) (s.are ∙ (λ i. map (λ r. sym (whole r) i) (limited most s.rows)) ∙ sym (map-map cut shown (limited most s.rows)) ∙ ap (map cut) (sym s.are) ∙ is) s

-- ---- a row that is read whole

own_code : (row : Row) (code : List ℕ) (read : Material) → ((m : Material) (after : Row) → m.code ≡ code → row ≡ material_columns m ++ after → read ≡ m) → columns_of 4 0 row ≡ material_columns read → read.code ≡ code
own_code [] code read is exact = absurd (cc)
own_code (a ∷ []) code read is exact = absurd (cc)
own_code (a ∷ b ∷ []) code read is exact = absurd (cc)
own_code (a ∷ b ∷ c ∷ []) code read is exact = absurd (cc)
own_code (a ∷ b ∷ c ∷ d ∷ after) code read is exact = ap (λ (m : Material). m.code) (is (record read { code = code }) after refl (λ i. exact i ++ after))

pub material_read : (r : Result Material TableFault) (row : Row) (code : List ℕ) → ((m : Material) (after : Row) → m.code ≡ code → row ≡ material_columns m ++ after → IfOk r (λ read. read ≡ m))
    → IfOk r (λ read. columns_of 4 0 row ≡ material_columns read) → column row 4 ≡ Text code → IfOk r (λ read. columns_of 5 0 row ≡ listed_material read)
material_read (Ok read) row code is exact last = λ i. exact i ++ (last ∙ ap Text (sym (own_code row code read is exact))) i ∷ []
material_read (Err e) row code is exact last = tt

pub demand_read : (r : Result Demand TableFault) (row : Row) (number : ℕ) → IfOk r (λ read. read.number ≡ number) → IfOk r (λ read. columns_of 10 0 row ≡ demand_columns read) → column row 10 ≡ Int (pos number)
    → IfOk r (λ read. columns_of 11 0 row ≡ listed_demand read)
demand_read (Ok read) row number own exact last = λ i. exact i ++ (last ∙ ap (λ n. Int (pos n)) (sym own)) i ∷ []
demand_read (Err e) row number own exact last = tt

-- a number that is read of its row is that of the row
pub last_read : (terminal : ℕ) (stored : List Row) (row : Row) (number : ℕ) → AreLastRows terminal stored (row ∷ []) → column row 0 ≡ Int (pos number) → AreLastRows terminal stored (number_row number ∷ [])
last_read terminal stored row number are is = shown_read (columns_of 1 0) (columns_of 1 2) (λ r. refl) _ _ _ stored (row ∷ []) (number_row number ∷ []) are (λ i. (is i ∷ []) ∷ [])
