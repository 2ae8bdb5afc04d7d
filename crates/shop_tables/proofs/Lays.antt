-- The tables of an empty database, each of which one statement makes.
use Rattle.std.proofs.Common.{◌≡◌, ◌≢◌, ℕ, ◌+◌, pos, true, false, List, [], ◌∷◌, length, drop, map, codes, slice_get, is_some, Some, Ok, Err, Result, OnOk, refl, sym, ap, subst, ◌∙◌}
use Rattle.std.specs.List.{AllByRecursion}
use Rattle.std.proofs.lemmas.List.Sorted.{IsPermutation-refl}
use Rattle.std.specs.FinMap.{entries, empty, get, get-empty, len-entries, len-empty}
use Rattle.std.specs.FinSet as set
use Rattle.std.specs.declared.cmp.Ordering.{Ordering}
use Rattle.std.specs.Ordering.{int_cmp, nat_cmp}
use Rattle.sqlite_value.specs.Order.{Row, value_cmp}
use Rattle.sqlite_value.specs.declared.value.Value.TheVariants.{Null, Int, Text}
use Rattle.sqlite_value.proofs.OrderLemmas.{value_cmp-Int}
use Rattle.sqlite_trees.specs.declared.store.Store.{Ghosts}
use Rattle.sqlite.specs.Table.{Table}
use Rattle.sqlite.specs.Schema.{Schema}
use Rattle.sqlite.specs.Term.{Term, lit}
use Rattle.sqlite.specs.Command.TheVariants.{Insert}
use Rattle.sqlite.specs.Edit.{IsNoIndex}
use Rattle.sqlite.specs.Change.{created, next_tree}
use Rattle.sqlite.specs.Does.{lacks_sequence}
use Rattle.sqlite.specs.Effect.{Database, IsDatabase}
use Rattle.sqlite_catalog.specs.Calls.{KeepsForeign}
use Rattle.sqlite_trees.specs.Objects.{catalog_tree}
use Rattle.sqlite_schema.specs.Names.{same_name, table_named}
use Rattle.sqlite_resolve.specs.Compile.{first}
use Rattle.sqlite.specs.Source.TheVariants.{Values}
use Rattle.sqlite.specs.Listing.{understood}
use Rattle.sqlite.specs.Rowids.TheVariants.{Chosen}
use Rattle.sqlite_rules.specs.Edit.{numbered, put_all}
use Rattle.sqlite.specs.Cast.{cast_row}
use Rattle.sqlite.specs.State.{State, HasCleanDisk, mode_of}
use Rattle.sqlite.specs.declared.error.Error.{Error}
use Rattle.sqlite.specs.Held.{Held, state}
use Rattle.sqlite.proofs.Callers.{runs_as, statement_of}
use Rattle.sqlite_tied.specs.Compute.{everything}
use Rattle.cut_measure.specs.Codes.{code_cmp}
use Rattle.cut_measure.specs.Names.{name_cmp}
use Rattle.shop_records.specs.Content.{fresh, message_id_cmp}
use Rattle.shop_records.specs.declared.records.Material.{Material}
use Rattle.shop_records.specs.declared.records.Part.{Part}
use Rattle.shop_records.specs.declared.records.Job.{Job}
use Rattle.shop_records.specs.declared.records.JobHalt.{JobHalt}
use Rattle.shop_records.specs.declared.records.JobBegin.{JobBegin}
use Rattle.shop_records.specs.declared.notes.OrderNote.{OrderNote}
use Rattle.shop_records.specs.declared.records.Demand.{Demand}
use Rattle.shop_records.specs.declared.records.Totals.{Totals}
use Rattle.shop_records.specs.declared.imports.ImportRow.{ImportRow}
use Rattle.shop_records.specs.declared.texts.Kept.{Kept}
use Rattle.shop_records.specs.declared.journal.Entry.{Entry}
use Rattle.shop_statements.specs.Layout.{Loose, created_all, no_schema, shop_schema, HasShopTables, meta_table, materials_table, parts_table, jobs_table, orders_table, demands_table, kept_table, imports_table, totals_table, totals2_table, journal_table, uses_table, notes_table, begun_table, halts_table}
use Rattle.shop_statements.specs.Rows.{AreRows, IsKeyed, meta_row, meta_entries, material_row, part_row, job_row, order_row, demand_row, kept_row, import_row, totals_row, journal_row, use_row, use_cmp, note_row, begun_row, halt_row}
use Rattle.shop_tables.specs.Adopting.{IsMadeBeside, MakesTables, with_ours}
use Rattle.shop_tables.specs.Laying.{Adds, AreRun, Does, IsRun, PutsFirstNumbers}
use Rattle.shop_tables.specs.declared.laying.TheConstants.{META, MATERIALS, PARTS, JOBS, ORDERS, DEMANDS, KEPT, IMPORTS, TOTALS, TOTALS2, JOURNAL, USES, NOTES, BEGUN, HALTS, FIRST_NUMBERS}
use Rattle.shop_statements.specs.Shown.{Ran, Shows, fresh_books}
use Rattle.shop_statements.proofs.Keys.{cast-Int, cast-Null}
use Rattle.shop_tables.proofs.Behind.{Behind, begins, first_named, first_placed, made_blank, others_behind, others_kept, placed, still_sequence}
use Rattle.shop_tables.proofs.Inserted.{ReadsInsert, understood_inserts}
use Rattle.shop_tables.proofs.Making.{AreMade, MakesAs, laid_in_turn, makes, ran_on, ran_when, table_of, texts_of}
use Rattle.shop_statements.proofs.Writes.{inserted}
use Rattle.shop_statements.proofs.Works.{unlike}

meta_made : MakesAs META.now meta_table
unfolding everything
meta_made = record { reads = ((refl, refl, refl, refl), refl); plain = refl }

materials_made : MakesAs MATERIALS.now materials_table
unfolding everything
materials_made = record { reads = ((refl, refl, refl, refl), refl); plain = refl }

parts_made : MakesAs PARTS.now parts_table
unfolding everything
parts_made = record { reads = ((refl, refl, refl, refl), refl); plain = refl }

jobs_made : MakesAs JOBS.now jobs_table
unfolding everything
jobs_made = record { reads = ((refl, refl, refl, refl), refl); plain = refl }

orders_made : MakesAs ORDERS.now orders_table
unfolding everything
orders_made = record { reads = ((refl, refl, refl, refl), refl); plain = refl }

demands_made : MakesAs DEMANDS.now demands_table
unfolding everything
demands_made = record { reads = ((refl, refl, refl, refl), refl); plain = refl }

kept_made : MakesAs KEPT.now kept_table
unfolding everything
kept_made = record { reads = ((refl, refl, refl, refl), refl); plain = refl }

imports_made : MakesAs IMPORTS.now imports_table
unfolding everything
imports_made = record { reads = ((refl, refl, refl, refl), refl); plain = refl }

totals_made : MakesAs TOTALS.now totals_table
unfolding everything
totals_made = record { reads = ((refl, refl, refl, refl), refl); plain = refl }

totals2_made : MakesAs TOTALS2.now totals2_table
unfolding everything
totals2_made = record { reads = ((refl, refl, refl, refl), refl); plain = refl }

journal_made : MakesAs JOURNAL.now journal_table
unfolding everything
journal_made = record { reads = ((refl, refl, refl, refl), refl); plain = refl }

uses_made : MakesAs USES.now uses_table
unfolding everything
uses_made = record { reads = ((refl, refl, refl, refl), refl); plain = refl }

notes_made : MakesAs NOTES.now notes_table
unfolding everything
notes_made = record { reads = ((refl, refl, refl, refl), refl); plain = refl }

begun_made : MakesAs BEGUN.now begun_table
unfolding everything
begun_made = record { reads = ((refl, refl, refl, refl), refl); plain = refl }

halts_made : MakesAs HALTS.now halts_table
unfolding everything
halts_made = record { reads = ((refl, refl, refl, refl), refl); plain = refl }

-- the tables that came with version 3, under the texts that make them
abbrev pub later_steps : List (List ℕ × Table)
later_steps = (USES.now, uses_table) ∷ (NOTES.now, notes_table) ∷ (BEGUN.now, begun_table) ∷ (HALTS.now, halts_table) ∷ []

pub later_made : AreMade later_steps
later_made = (uses_made, (notes_made, (begun_made, (halts_made, tt))))

abbrev last_steps : List (List ℕ × Table)
last_steps = (JOURNAL.now, journal_table) ∷ later_steps

last_made : AreMade last_steps
last_made = (journal_made, later_made)

-- the tables behind meta's, under the texts that make them
abbrev steps : List (List ℕ × Table)
steps =
    (MATERIALS.now, materials_table)
    ∷ (PARTS.now, parts_table)
    ∷ (JOBS.now, jobs_table)
    ∷ (ORDERS.now, orders_table)
    ∷ (DEMANDS.now, demands_table)
    ∷ (KEPT.now, kept_table)
    ∷ (IMPORTS.now, imports_table)
    ∷ (TOTALS.now, totals_table)
    ∷ (TOTALS2.now, totals2_table)
    ∷ last_steps

all_made : AreMade steps
all_made = (materials_made, (parts_made, (jobs_made, (orders_made, (demands_made, (kept_made, (imports_made, (totals_made, (totals2_made, last_made)))))))))

abbrev meta_terms : List Term
meta_terms =
    lit Null ∷ lit (Text (codes "version")) ∷ lit (Int (pos 3)) ∷ lit Null ∷ lit (Text (codes "act")) ∷ lit (Int (pos 0)) ∷ lit Null ∷ lit (Text (codes "demand"))
    ∷ lit (Int (pos 0)) ∷ []

-- a table like meta's, wherever it is
abbrev meta_in : ℕ → Table
meta_in tree = record meta_table { tree = tree }

fill_is : (schema : Schema) (tree : ℕ) → ReadsInsert schema (codes "meta") (meta_in tree) (Values meta_terms 3) (first FIRST_NUMBERS.now)
unfolding everything
fill_is schema tree = ((refl, refl, refl, refl), refl, refl)

-- ---- the rows of a new shop

abbrev loose : Table → Loose
loose t = record { primary = t.primary; uniques = t.uniques; orders = t.orders; checks = t.checks; references = t.references }

pub shop_is_shop : HasShopTables shop_schema
shop_is_shop = record {
  meta = loose meta_table;
  materials = loose materials_table;
  parts = loose parts_table;
  jobs = loose jobs_table;
  orders = loose orders_table;
  demands = loose demands_table;
  kept = loose kept_table;
  imports = loose imports_table;
  totals = loose totals_table;
  totals2 = loose totals2_table;
  journal = loose journal_table;
  uses = loose uses_table;
  notes = loose notes_table;
  begun = loose begun_table;
  halts = loose halts_table;
  others = [];
  tables = refl;
  bare = ((unlike 1 0 refl, (unlike 3 0 refl, (unlike 5 0 refl, (unlike 8 0 refl, (unlike 10 0 refl, (unlike 12 0 refl, (unlike 14 0 refl, (unlike 16 0 refl, (unlike 18 0 refl, (unlike 21 0 refl, (unlike 23 0 refl, tt))))))))))), ((unlike 1 2 refl, (unlike 3 2 refl, (unlike 5 2 refl, (unlike 8 2 refl, (unlike 10 2 refl, (unlike 12 2 refl, (unlike 14 2 refl, (unlike 16 2 refl, (unlike 18 2 refl, (unlike 21 2 refl, (unlike 23 2 refl, tt))))))))))), ((unlike 1 4 refl, (unlike 3 4 refl, (unlike 5 4 refl, (unlike 8 4 refl, (unlike 10 4 refl, (unlike 12 4 refl, (unlike 14 4 refl, (unlike 16 4 refl, (unlike 18 4 refl, (unlike 21 4 refl, (unlike 23 4 refl, tt))))))))))), ((unlike 1 6 refl, (unlike 3 6 refl, (unlike 5 6 refl, (unlike 8 6 refl, (unlike 10 6 refl, (unlike 12 6 refl, (unlike 14 6 refl, (unlike 16 6 refl, (unlike 18 6 refl, (unlike 21 6 refl, (unlike 23 6 refl, tt))))))))))), ((unlike 1 7 refl, (unlike 3 7 refl, (unlike 5 7 refl, (unlike 8 7 refl, (unlike 10 7 refl, (unlike 12 7 refl, (unlike 14 7 refl, (unlike 16 7 refl, (unlike 18 7 refl, (unlike 21 7 refl, (unlike 23 7 refl, tt))))))))))), ((unlike 1 9 refl, (unlike 3 9 refl, (unlike 5 9 refl, (unlike 8 9 refl, (unlike 10 9 refl, (unlike 12 9 refl, (unlike 14 9 refl, (unlike 16 9 refl, (unlike 18 9 refl, (unlike 21 9 refl, (unlike 23 9 refl, tt))))))))))), ((unlike 1 11 refl, (unlike 3 11 refl, (unlike 5 11 refl, (unlike 8 11 refl, (unlike 10 11 refl, (unlike 12 11 refl, (unlike 14 11 refl, (unlike 16 11 refl, (unlike 18 11 refl, (unlike 21 11 refl, (unlike 23 11 refl, tt))))))))))), ((unlike 1 13 refl, (unlike 3 13 refl, (unlike 5 13 refl, (unlike 8 13 refl, (unlike 10 13 refl, (unlike 12 13 refl, (unlike 14 13 refl, (unlike 16 13 refl, (unlike 18 13 refl, (unlike 21 13 refl, (unlike 23 13 refl, tt))))))))))), ((unlike 1 15 refl, (unlike 3 15 refl, (unlike 5 15 refl, (unlike 8 15 refl, (unlike 10 15 refl, (unlike 12 15 refl, (unlike 14 15 refl, (unlike 16 15 refl, (unlike 18 15 refl, (unlike 21 15 refl, (unlike 23 15 refl, tt))))))))))), ((unlike 1 17 refl, (unlike 3 17 refl, (unlike 5 17 refl, (unlike 8 17 refl, (unlike 10 17 refl, (unlike 12 17 refl, (unlike 14 17 refl, (unlike 16 17 refl, (unlike 18 17 refl, (unlike 21 17 refl, (unlike 23 17 refl, tt))))))))))), ((unlike 1 19 refl, (unlike 3 19 refl, (unlike 5 19 refl, (unlike 8 19 refl, (unlike 10 19 refl, (unlike 12 19 refl, (unlike 14 19 refl, (unlike 16 19 refl, (unlike 18 19 refl, (unlike 21 19 refl, (unlike 23 19 refl, tt))))))))))), ((unlike 1 20 refl, (unlike 3 20 refl, (unlike 5 20 refl, (unlike 8 20 refl, (unlike 10 20 refl, (unlike 12 20 refl, (unlike 14 20 refl, (unlike 16 20 refl, (unlike 18 20 refl, (unlike 21 20 refl, (unlike 23 20 refl, tt))))))))))), ((unlike 1 22 refl, (unlike 3 22 refl, (unlike 5 22 refl, (unlike 8 22 refl, (unlike 10 22 refl, (unlike 12 22 refl, (unlike 14 22 refl, (unlike 16 22 refl, (unlike 18 22 refl, (unlike 21 22 refl, (unlike 23 22 refl, tt))))))))))), ((unlike 1 24 refl, (unlike 3 24 refl, (unlike 5 24 refl, (unlike 8 24 refl, (unlike 10 24 refl, (unlike 12 24 refl, (unlike 14 24 refl, (unlike 16 24 refl, (unlike 18 24 refl, (unlike 21 24 refl, (unlike 23 24 refl, tt))))))))))), ((unlike 1 25 refl, (unlike 3 25 refl, (unlike 5 25 refl, (unlike 8 25 refl, (unlike 10 25 refl, (unlike 12 25 refl, (unlike 14 25 refl, (unlike 16 25 refl, (unlike 18 25 refl, (unlike 21 25 refl, (unlike 23 25 refl, tt))))))))))), tt)))))))))))))));
  rests = (tt, (tt, (((refl, refl), tt), (((refl, refl), tt), (tt, (((refl, refl), ((refl, refl), tt)), (tt, (((refl, refl), tt), (((refl, refl), tt), (((refl, refl), tt), (tt, (tt, (((refl, refl), tt), (((refl, refl), tt), (((refl, refl), tt), tt)))))))))))))));
}

no_length : {A : Type 0} (xs : List A) → length xs ≡ 0 → xs ≡ []
no_length [] h = refl
no_length (x ∷ xs) h = absurd (cc)

pub no_entries : {K : Type 0} (R : K → K → Ordering) (X : Type 0) → entries (empty {X = X} {R = R}) ≡ []
no_entries R X = no_length _ (sym (len-entries (empty {X = X} {R = R})) ∙ len-empty R X)

pub none : {E : Type 0} (skip : ℕ) (row_of : E → Row) (es : List E) (stored : List Row) → es ≡ [] → stored ≡ [] → AreRows skip (map row_of es) stored
none skip row_of es stored no_es no_rows = rw (no_es, no_rows) (record { same = IsPermutation-refl []; rising = tt; keyed = tt })

abbrev first_rows : List Row
first_rows =
    (Int (pos 1) ∷ Text (codes "version") ∷ Int (pos 3) ∷ []) ∷ (Int (pos 2) ∷ Text (codes "act") ∷ Int (pos 0) ∷ []) ∷ (Int (pos 3) ∷ Text (codes "demand") ∷ Int (pos 0) ∷ []) ∷ []

abbrev given_rows : List Row
given_rows = (Null ∷ Text (codes "version") ∷ Int (pos 3) ∷ []) ∷ (Null ∷ Text (codes "act") ∷ Int (pos 0) ∷ []) ∷ (Null ∷ Text (codes "demand") ∷ Int (pos 0) ∷ []) ∷ []

at_rows : (a b : ℕ) → value_cmp (Int (pos a)) (Int (pos b)) ≡ int_cmp (pos a) (pos b)
at_rows a b = value_cmp-Int (pos a) (pos b)

filled : (stored : List Row) → stored ≡ [] → put_all stored (numbered Chosen stored (map (λ s. cast_row meta_table (drop 0 s)) given_rows)) ≡ first_rows
filled stored is = rw (is, cast-Null, cast-Int (pos 3), cast-Int (pos 0), at_rows 1 2, at_rows 1 3, at_rows 2 3) refl

first_meta : AreRows 1 (map meta_row (meta_entries fresh)) first_rows
first_meta = record { same = IsPermutation-refl _; rising = ((at_rows 1 2, (at_rows 1 3, tt)), ((at_rows 2 3, tt), (tt, tt))); keyed = (refl, (refl, (refl, tt))) }

no_key : {K : Type 0} (R : K → K → Ordering) {X : Type 0} (q : K) (x : X) (P : Type 0) → get (empty {X = X} {R = R}) q ≡ Some x → P
no_key R q x P h = absurd (let e = sym (get-empty _ q) ∙ h in cc)

fresh_keyed : IsKeyed fresh
fresh_keyed = record {
  materials = λ code x h. no_key code_cmp code x _ h;
  parts = λ name x h. no_key name_cmp name x _ h;
  jobs = λ number x h. no_key nat_cmp number x _ h;
  halts = λ number x h. no_key nat_cmp number x _ h;
  begun = λ number x h. no_key nat_cmp number x _ h;
  notes = λ order x h. no_key code_cmp order x _ h;
  demands = λ number x h. no_key nat_cmp number x _ h;
  imports = λ order x h. no_key code_cmp order x _ h;
  entries = λ number x h. no_key nat_cmp number x _ h;
  codes = λ code x h. no_key code_cmp code x _ h;
  values = λ name x h. no_key name_cmp name x _ h;
  noted = λ number x h. no_key nat_cmp number x _ h;
  halted = λ number x h. no_key nat_cmp number x _ h;
}

-- what the first numbers make of a table like meta's that has no row
record NumbersPut (schema : Schema) (tree : ℕ) (old new : Database) : Type 0 where
  schema_is : new.schema ≡ schema
  sound : IsDatabase new
  texts : KeepsForeign (old.trees catalog_tree) (new.trees catalog_tree)
  tables : AllByRecursion (λ t. t.tree ≢ tree → new.trees t.tree ≡ old.trees t.tree) schema.tables
  others : (t : ℕ) → t ≢ tree → IsNoIndex schema t → new.trees t ≡ old.trees t
  numbers : AreRows 1 (map meta_row (meta_entries fresh)) (new.trees tree)

puts_numbers : (schema : Schema) (at tree : ℕ) (old new : State) → table_named schema (codes "meta") ≡ Some at → slice_get schema.tables at ≡ Some (meta_in tree) → old.now.schema ≡ schema → IsRun FIRST_NUMBERS.now old new
    → old.now.trees tree ≡ [] → NumbersPut schema tree old.now new.now
puts_numbers schema at tree old new named placed has ran free =
    let is = understood_inserts schema (codes "meta") (meta_in tree) (Values meta_terms 3) refl at named placed FIRST_NUMBERS.now (fill_is schema tree) in
    let w = runs_as FIRST_NUMBERS.now [] old new schema has (Insert at (Values meta_terms 3)) is.0 is.1 ran.count ran.executes in
    let e = inserted old.step_limit (mode_of old) [] old.now new.now w.tally at (meta_in tree) (ap (λ (c : Schema). slice_get c.tables at) has ∙ placed) (statement_of FIRST_NUMBERS.now (understood schema FIRST_NUMBERS.now)) meta_terms 3 w.changed in
    record {
      schema_is = e.schema_is ∙ has;
      sound = w.sound;
      texts = w.frozen.texts;
      tables = subst (λ (s : Schema). AllByRecursion (λ t. t.tree ≢ tree → new.now.trees t.tree ≡ old.now.trees t.tree) s.tables) has e.tables;
      others = λ t far bare. e.others t far (subst (λ s. IsNoIndex s t) (sym has) bare);
      numbers = subst (AreRows 1 (map meta_row (meta_entries fresh))) (sym (e.rows ∙ filled (old.now.trees tree) free)) first_meta;
    }

ours_named : table_named shop_schema (codes "meta") ≡ Some 0
unfolding same_name
ours_named = refl

meta_named : same_name meta_table.name (codes "meta") ≡ true
unfolding same_name
meta_named = refl

-- ---- in an empty database

laid_is : with_ours no_schema ≡ shop_schema
unfolding with_ours
laid_is = refl

-- with these numbers they are the tables of a new shop
shows_fresh : (old : Database) (new : State) → old.schema ≡ no_schema → IsMadeBeside old new.now → Shows new fresh_books
shows_fresh old new has made =
    let schema : new.now.schema ≡ shop_schema = made.schema ∙ ap with_ours has ∙ laid_is in
    let no : AllByRecursion (λ t. new.now.trees t.tree ≡ []) (drop 1 shop_schema.tables) = subst (λ (s : Schema). AllByRecursion (λ t. new.now.trees t.tree ≡ []) (drop 1 s.tables)) schema
    (subst (λ (s : Schema). AllByRecursion (λ t. new.now.trees t.tree ≡ []) (drop (length s.tables + 1) new.now.schema.tables)) has made.empty) in
    record {
      schema = subst HasShopTables (sym schema) shop_is_shop;
      sound = made.sound;
      stands = record {
        meta = subst (λ s. AreRows 1 (map meta_row (meta_entries fresh)) (new.now.trees (next_tree s))) has made.numbers;
        materials = none 1 material_row (entries empty) (new.now.trees 2) (no_entries code_cmp Material) no.0;
        parts = none 1 part_row (entries empty) (new.now.trees 4) (no_entries name_cmp Part) no.1.0;
        jobs = none 0 job_row (entries empty) (new.now.trees 6) (no_entries nat_cmp Job) no.1.1.0;
        orders = record { codes = empty; there = λ code. set.contains-empty code_cmp code ∙ sym (ap is_some (get-empty code_cmp code)); rows = none 1 order_row (entries empty) (new.now.trees 7) (no_entries code_cmp (Unit {0})) no.1.1.1.0 };
        demands = none 0 demand_row (entries empty) (new.now.trees 9) (no_entries nat_cmp Demand) no.1.1.1.1.0;
        kept = none 1 kept_row (entries empty) (new.now.trees 11) (no_entries message_id_cmp Kept) no.1.1.1.1.1.0;
        imports = none 1 import_row (entries empty) (new.now.trees 13) (no_entries code_cmp ImportRow) no.1.1.1.1.1.1.0;
        totals = no.1.1.1.1.1.1.1.0;
        totals2 = none 1 totals_row (entries empty) (new.now.trees 17) (no_entries code_cmp Totals) no.1.1.1.1.1.1.1.1.0;
        journal = none 0 journal_row (entries empty) (new.now.trees 19) (no_entries nat_cmp Entry) no.1.1.1.1.1.1.1.1.1.0;
        uses = none 1 use_row (entries empty) (new.now.trees 20) (no_entries use_cmp (Unit {0})) no.1.1.1.1.1.1.1.1.1.1.0;
        notes = none 1 note_row (entries empty) (new.now.trees 22) (no_entries code_cmp OrderNote) no.1.1.1.1.1.1.1.1.1.1.1.0;
        begun = none 0 begun_row (entries empty) (new.now.trees 24) (no_entries nat_cmp JobBegin) no.1.1.1.1.1.1.1.1.1.1.1.1.0;
        halts = none 0 halt_row (entries empty) (new.now.trees 25) (no_entries nat_cmp JobHalt) no.1.1.1.1.1.1.1.1.1.1.1.1.1.0;
      };
      keyed = fresh_keyed;
    }

-- the first numbers end it
ended : (front mid new : Database) → (b : Behind front (placed front.schema meta_table) (created_all (map table_of steps) (created front.schema meta_table)) mid.trees)
    → NumbersPut (created_all (map table_of steps) (created front.schema meta_table)) (next_tree front.schema) mid new → IsMadeBeside front new
unfolding with_ours
ended front mid new b put =
    let schema = created_all (map table_of steps) (created front.schema meta_table) in
    let first = placed front.schema meta_table in
    record {
      schema = put.schema_is;
      sound = put.sound;
      texts = λ row has is. put.texts row (b.texts row has is) is;
      others = others_kept front first schema mid.trees b new.trees refl put.tables;
      numbers = put.numbers;
      empty = subst (AllByRecursion (λ t. new.trees t.tree ≡ [])) (sym (ap (λ (s : Schema). drop (length front.schema.tables + 1) s.tables) put.schema_is ∙ others_behind front.schema schema first b.made b.tables)) (made_blank front first schema mid.trees b new.trees refl put.tables);
    }

module _ {S : Type 0} (g : Ghosts S) where
  -- ---- what each statement does

  added : (text : List ℕ) (table : Table) → MakesAs text table → Adds g text table
  added text table facts schema counts old new has ran = makes schema text table (state g old) (state g new) facts counts has ran

  pub meta_added : Adds g META.now meta_table
  meta_added = added META.now meta_table meta_made

  pub materials_added : Adds g MATERIALS.now materials_table
  materials_added = added MATERIALS.now materials_table materials_made

  pub parts_added : Adds g PARTS.now parts_table
  parts_added = added PARTS.now parts_table parts_made

  pub jobs_added : Adds g JOBS.now jobs_table
  jobs_added = added JOBS.now jobs_table jobs_made

  pub orders_added : Adds g ORDERS.now orders_table
  orders_added = added ORDERS.now orders_table orders_made

  pub demands_added : Adds g DEMANDS.now demands_table
  demands_added = added DEMANDS.now demands_table demands_made

  pub kept_added : Adds g KEPT.now kept_table
  kept_added = added KEPT.now kept_table kept_made

  pub imports_added : Adds g IMPORTS.now imports_table
  imports_added = added IMPORTS.now imports_table imports_made

  pub totals_added : Adds g TOTALS.now totals_table
  totals_added = added TOTALS.now totals_table totals_made

  pub totals2_added : Adds g TOTALS2.now totals2_table
  totals2_added = added TOTALS2.now totals2_table totals2_made

  pub journal_added : Adds g JOURNAL.now journal_table
  journal_added = added JOURNAL.now journal_table journal_made

  pub uses_added : Adds g USES.now uses_table
  uses_added = added USES.now uses_table uses_made

  pub notes_added : Adds g NOTES.now notes_table
  notes_added = added NOTES.now notes_table notes_made

  pub begun_added : Adds g BEGUN.now begun_table
  begun_added = added BEGUN.now begun_table begun_made

  pub halts_added : Adds g HALTS.now halts_table
  halts_added = added HALTS.now halts_table halts_made

  pub numbers_put : Does g FIRST_NUMBERS.now shop_schema PutsFirstNumbers
  numbers_put old new has ran free =
      let it = puts_numbers shop_schema 0 0 (state g old) (state g new) ours_named refl has ran free in (record { schema_is = it.schema_is; sound = it.sound; others = λ t far bare. it.others t (unlike t 0 far) bare }, it.numbers)

  -- ---- all of them

  abbrev texts : List (List ℕ)
  texts = META.now ∷ texts_of steps (FIRST_NUMBERS.now ∷ [])

  lays : (old new : Held S) → lacks_sequence old.schema ≡ false → AreRun g texts old new → IsMadeBeside (state g old).now (state g new).now
  lays old new counts ran =
      let front = (state g old).now in
      let one = ran.0 in
      let meta = meta_added old.schema counts old one refl ran.1 in
      let first = placed front.schema meta_table in
      let laid = laid_in_turn g steps (FIRST_NUMBERS.now ∷ []) front first (created front.schema meta_table) one new all_made (still_sequence front.schema meta_table refl counts) meta.schema_is (begins front meta_table (state g one).now meta) ran.2 in
      let schema = created_all (map table_of steps) (created front.schema meta_table) in
      let last = laid.later in
      let b = laid.behind in
      let put = puts_numbers schema (length front.schema.tables) (next_tree front.schema) (state g laid.mid) (state g last.0)
      (first_named front.schema schema first b.made b.tables (codes "meta") meta.free meta_named)
      (first_placed front.schema schema first b.made b.tables) laid.schema_is last.1 b.blank in
      subst (λ (x : Held S). IsMadeBeside front (state g x).now) (sym last.2) (ended front (state g laid.mid).now (state g last.0).now b put)

  -- where they run to the end, the transaction goes on
  pub lays_on : (old new : Held S) (r : Result (Unit {0}) Error) → (HasCleanDisk (state g new) → HasCleanDisk (state g old)) → (HasCleanDisk (state g new) → OnOk r (AreRun g texts old new)) → OnOk r (Ran (state g old) (state g new))
  lays_on = ran_when g META.now (texts_of steps (FIRST_NUMBERS.now ∷ []))

  -- ours are made behind those that were there
  pub lays_when : (old new : Held S) (r : Result (Unit {0}) Error) → lacks_sequence old.schema ≡ false → (HasCleanDisk (state g new) → OnOk r (AreRun g texts old new)) → HasCleanDisk (state g new)
      → OnOk r (IsMadeBeside (state g old).now (state g new).now)
  lays_when old new (Ok x) counts ran clean = lays old new counts (ran clean)
  lays_when old new (Err e) counts ran clean = tt

  -- in an empty database they are the tables of a new shop
  pub lays_fresh : (old new : Held S) (r : Result (Unit {0}) Error) → old.schema ≡ no_schema → (HasCleanDisk (state g new) → HasCleanDisk (state g old)) → (HasCleanDisk (state g new) → OnOk r (AreRun g texts old new))
      → OnOk r (MakesTables (state g old) (state g new) fresh_books)
  lays_fresh old new (Ok x) has earlier ran =
      let made = lays_when old new (Ok x) (ap lacks_sequence has) ran in
      record {
        earlier = earlier;
        on = λ clean. ran_on g META.now (texts_of steps (FIRST_NUMBERS.now ∷ [])) old new (ran clean);
        shows = λ clean. shows_fresh (state g old).now (state g new) has (made clean);
        schema = λ clean. (made clean).schema ∙ ap with_ours has ∙ laid_is;
      }
  lays_fresh old new (Err e) has earlier ran = tt
