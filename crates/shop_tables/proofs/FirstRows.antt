-- What the queries that list rows give of the books.
use Rattle.std.proofs.Common.{◌≡◌, ℕ, pos, Bool, true, List, [], ◌∷◌, ◌++◌, map, drop, filter, take, Some, Result, IfOk, Vec, refl, ap, ◌∙◌, arith}
use Rattle.std.specs.List.{list_all}
use Rattle.std.specs.declared.alloc.Global.{Global}
use Rattle.std.specs.Ordering.{nat_cmp, ordering_then}
use Rattle.std.specs.declared.cmp.Ordering.TheVariants.{Equal}
use Rattle.std.specs.Cmp.{nat_cmp_total}
use Rattle.std.specs.FinMap.{entries, nat_cmp-IsAntisymmetric, values}
use Rattle.std.proofs.lemmas.List.{take-map}
use Rattle.sqlite_value.specs.declared.value.Value.TheVariants.{Int, Text}
use Rattle.sqlite_value.specs.Order.{Row, column, value_cmp}
use Rattle.sqlite_value.proofs.OrderLemmas.{then-Equal}
use Rattle.sqlite.specs.declared.rows.Row.{Row as Answered}
use Rattle.sqlite.specs.Query.{Output, as_count, limited}
use Rattle.sqlite.specs.Program.{IsProgramAnswer}
use Rattle.sqlite.specs.Term.{Term, col, eval, holds}
use Rattle.sqlite.specs.Schema.{Schema}
use Rattle.sqlite.specs.Tree.{Trees}
use Rattle.sqlite.specs.State.{State, HasCleanDisk, Shown}
use Rattle.sqlite.proofs.Callers.{reads_as}
use Rattle.shop_records.specs.Content.{Content}
use Rattle.shop_records.specs.Lists.{materials_of}
use Rattle.shop_records.specs.declared.records.Demand.{Demand}
use Rattle.shop_records.specs.declared.records.Material.{Material}
use Rattle.shop_records.specs.declared.notes.OrderNote.{OrderNote}
use Rattle.shop_tables.specs.Listing.{code_row}
use Rattle.shop_tables.specs.ListedRows.{listed_demand, listed_material, listed_note, number_row}
use Rattle.shop_statements.specs.Rows.{AreRows, IsKeyed, demand_columns, demand_row, material_columns, material_row, note_columns, note_row}
use Rattle.shop_statements.specs.Selecting.{is_select}
use Rattle.shop_statements.specs.Shown.{Books, Holds, Leaves, Shows}
use Rattle.shop_statements.proofs.Finding.{code_same, code_total}
use Rattle.shop_tables.proofs.Firsts.{first_answer, of_values}
use Rattle.shop_tables.proofs.Listed.{ranked}
use Rattle.shop_tables.proofs.ListTexts.{all_materials_text, all_materials_terms, all_materials_is, all_notes_text, all_notes_terms, all_notes_is, by_rowid, first_of, open_demands_terms, by_code}
use Rattle.shop_tables.proofs.Ordered.{by_first, filter_true, in_order, rows_seen}
use Rattle.shop_statements.proofs.Terms.{Reads, from_table}
use Rattle.shop_statements.proofs.Texts.{shop, shop_is}

-- what a query's rows are on held books
pub held_given : {E : Type 0} (sql : List ℕ) (params : Row) (old new : State) (is : is_select sql ≡ true) (left : is_select sql ≡ true → Leaves old new) (b : Books) (P : List Row → Type 0) (r : Result (Vec Answered Global) E) → HasCleanDisk new → Holds old b
    → ((rows : List Row) → Shows old b → Shown sql params old new rows → P rows) → IfOk r (λ rows. Shown sql params old new rows.items) → IfOk r (λ rows. P rows.items)
held_given sql params old new is left b P r clean was finds given =
    let before : HasCleanDisk old = let l = (left is).survives.clean in omega (arith, l) in
    rows_seen sql params old new (Shows old b) P r (λ up. (was before up).shows) finds given

-- ---- tests of numbers

pub by_number : (a b : ℕ) → ordering_then (value_cmp (Int (pos a)) (Int (pos b))) Equal ≡ nat_cmp a b
by_number a b = then-Equal (value_cmp (Int (pos a)) (Int (pos b))) ∙ ranked a b

-- ---- materials

-- under any schema in which the text means this
pub lists_materials_of : (old new : State) (schema : Schema) (has : old.now.schema ≡ schema) (names : List (List ℕ)) → Reads schema all_materials_text (from_table 2 [] all_materials_terms by_code) names → (content : Content) → IsKeyed content
    → AreRows 1 (map material_row (entries content.materials)) (old.now.trees 2) → (rows : List Row) → Shown all_materials_text [] old new rows → rows ≡ map listed_material (materials_of content)
lists_materials_of old new schema has names is content keyed are rows shown =
    let a = (reads_as all_materials_text [] old new schema has _ is.command is.plain is.listing rows shown).answer in
    in_order code_total code_same 2 [] all_materials_terms by_code (λ e. (Text e.0 ∷ [], material_columns e.1 ++ code_row e.0)) (λ e f. by_first e.0 f.0) 1 old.now.trees [] refl material_row (λ _. true) (λ _. true) (λ r. refl) (λ e. refl)
    (λ d. (column d 0 ∷ [], column d 1 ∷ column d 2 ∷ column d 3 ∷ column d 4 ∷ column d 0 ∷ [])) five_later (λ e. refl) rows content.materials are a
    ∙ of_values code_total code_same content.materials (λ (m : Material). m.code) keyed.materials _ (λ _. true) (λ _. true) (λ x. refl)
    ∙ ap (map listed_material) (filter_true (materials_of content))
  where
    five_later : (r : Row) → ◌≡◌ {A = Output} (column r 1 ∷ [], column r 2 ∷ column r 3 ∷ column r 4 ∷ column r 5 ∷ column r 1 ∷ [])
        (column (drop 1 r) 0 ∷ [], column (drop 1 r) 1 ∷ column (drop 1 r) 2 ∷ column (drop 1 r) 3 ∷ column (drop 1 r) 4 ∷ column (drop 1 r) 0 ∷ [])
    five_later [] = refl
    five_later (x ∷ d) = refl

-- ---- demands

-- the rows of the first demands that pass these tests
module _ (db : Trees) (content : Content) (keyed : IsKeyed content) (are : AreRows 0 (map demand_row (entries content.demands)) (db 9)) (tests : List Term) (params : Row) (most : ℕ) (limits : as_count (eval (col 0 1) (params ∷ [])) ≡ Some most)
    (t : ℕ × Demand → Bool) (p : Demand → Bool) (passes : (e : ℕ × Demand) → list_all (holds (params ∷ demand_row e ∷ [])) tests ≡ t e) (same_test : (d : Demand) → t (d.number, d) ≡ p d) where
  pub demands_first : (rows : List Row) → IsProgramAnswer [] (first_of (col 0 1) (from_table 9 tests open_demands_terms by_rowid)) db params rows → rows ≡ map listed_demand (take most (filter p (values content.demands)))
  demands_first rows a =
      let whole = first_answer 9 tests open_demands_terms by_rowid (col 0 1) db params rows a in
      let all : whole.0 ≡ map listed_demand (filter p (values content.demands)) =
      in_order nat_cmp_total nat_cmp-IsAntisymmetric 9 tests open_demands_terms by_rowid (λ e. (Int (pos e.0) ∷ [], demand_columns e.1 ++ number_row e.0)) (λ e f. by_number e.0 f.0) 0 db params refl demand_row t (λ r. list_all (holds (params ∷ r ∷ [])) tests) (λ r. refl) passes
      (λ d. (column d 0 ∷ [], column d 2 ∷ column d 3 ∷ column d 4 ∷ column d 5 ∷ column d 6 ∷ column d 7 ∷ column d 8 ∷ column d 9 ∷ column d 10 ∷ column d 11 ∷ column d 0 ∷ [])) (λ r. refl) (λ e. refl) whole.0 content.demands are whole.1
      ∙ of_values nat_cmp_total nat_cmp-IsAntisymmetric content.demands (λ (d : Demand). d.number) keyed.demands _ t p same_test in
      whole.2 ∙ (λ i. limited (limits i) (all i)) ∙ take-map listed_demand most _

-- ---- lists of today's tables

module _ (old new : State) (b : Books) (has : Shows old b) where
  abbrev over : Schema
  over = shop old.now.schema has.schema

  pub lists_materials : (rows : List Row) → Shown all_materials_text [] old new rows → rows ≡ map listed_material (materials_of b.content)
  lists_materials = lists_materials_of old new over (shop_is old.now.schema has.schema) _ (all_materials_is old.now.schema has.schema) b.content has.keyed has.stands.materials

  pub lists_notes : (rows : List Row) → Shown all_notes_text [] old new rows → rows ≡ map listed_note (values b.content.notes)
  lists_notes rows shown =
      let is = all_notes_is old.now.schema has.schema in
      let a = (reads_as all_notes_text [] old new over (shop_is old.now.schema has.schema) _ is.command is.plain is.listing rows shown).answer in
      in_order code_total code_same 22 [] all_notes_terms by_code (λ e. (Text e.0 ∷ [], note_columns e.1 ++ code_row e.0)) (λ e f. by_first e.0 f.0) 1 old.now.trees [] refl note_row (λ _. true) (λ _. true) (λ r. refl) (λ e. refl)
      (λ d. (column d 0 ∷ [], column d 1 ∷ column d 2 ∷ column d 0 ∷ [])) three_later (λ e. refl) rows b.content.notes has.stands.notes a
      ∙ of_values code_total code_same b.content.notes (λ (row : OrderNote). row.order) has.keyed.notes _ (λ _. true) (λ _. true) (λ x. refl)
      ∙ ap (map listed_note) (filter_true (values b.content.notes))
    where
      three_later : (r : Row) → ◌≡◌ {A = Output} (column r 1 ∷ [], column r 2 ∷ column r 3 ∷ column r 1 ∷ []) (column (drop 1 r) 0 ∷ [], column (drop 1 r) 1 ∷ column (drop 1 r) 2 ∷ column (drop 1 r) 0 ∷ [])
      three_later [] = refl
      three_later (x ∷ d) = refl
