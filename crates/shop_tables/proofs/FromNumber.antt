-- What the queries of demands, of jobs, of begun jobs and of entries from a number on give of the books.
use Rattle.std.proofs.Common.{◌≡◌, ◌++◌, ℕ, pos, Bool, nat_le, List, [], ◌∷◌, map, take, refl, ap, ◌∙◌, arith}
use Rattle.std.specs.List.{list_all}
use Rattle.std.specs.Ordering.{is_ge, nat_cmp}
use Rattle.std.specs.Cmp.{nat_cmp_total}
use Rattle.std.specs.FinMap.{entries, nat_cmp-IsAntisymmetric}
use Rattle.std.proofs.lemmas.Bool.Decides.{nat_tests}
use Rattle.std.proofs.lemmas.List.{take-map}
use Rattle.sqlite_value.specs.declared.keys.Collation.TheVariants.{Binary}
use Rattle.sqlite_value.specs.declared.value.Value.{Value}
use Rattle.sqlite_value.specs.declared.value.Value.TheVariants.{Int}
use Rattle.sqlite_value.specs.Order.{Row, column}
use Rattle.sqlite_sql.specs.declared.ops.BinaryOp.TheVariants.{Compare}
use Rattle.sqlite_sql.specs.declared.ops.CompareOp.TheVariants.{Ge}
use Rattle.sqlite_sql.specs.Ops.{binary, is_true}
use Rattle.sqlite.specs.Schema.{Schema}
use Rattle.sqlite.specs.State.{State, Shown}
use Rattle.sqlite.specs.Term.{col, holds}
use Rattle.sqlite.proofs.Callers.{reads_as}
use Rattle.shop_records.specs.Content.{Content}
use Rattle.shop_records.specs.declared.records.Job.{Job}
use Rattle.shop_records.specs.declared.records.JobBegin.{JobBegin}
use Rattle.shop_records.specs.declared.journal.Entry.{Entry}
use Rattle.shop_statements.specs.Rows.{AreRows, IsKeyed, begun_columns, begun_row, demand_row, entry_columns, job_columns, job_row, journal_row}
use Rattle.shop_statements.specs.Shown.{Books, Shows}
use Rattle.shop_statements.proofs.Keys.{and_true, reported}
use Rattle.shop_statements.proofs.Terms.{Reads, from_table}
use Rattle.shop_statements.proofs.Texts.{shop, shop_is}
use Rattle.shop_tables.specs.ListedRows.{listed_begun, listed_demand, listed_entry, listed_job, number_row}
use Rattle.shop_tables.specs.RowsFrom.{begun_from, demands_from, entries_from, jobs_from}
use Rattle.shop_tables.proofs.Listed.{ranked}
use Rattle.shop_tables.proofs.FirstRows.{by_number, demands_first}
use Rattle.shop_tables.proofs.Firsts.{first_answer, of_values}
use Rattle.shop_tables.proofs.ListTexts.{begun_from_is, begun_from_terms, begun_from_text, by_rowid, demands_from_is, demands_from_text, entries_from_is, entries_from_terms, entries_from_text, first_of, from_tests, jobs_from_is, jobs_from_terms, jobs_from_text, open_demands_terms}
use Rattle.shop_tables.proofs.Ordered.{in_order}

-- ---- at least a number

abbrev at_least : Value → Value → Bool
at_least a b = is_true (binary (Compare Ge Binary) a b)

is_at_least : (m n : ℕ) → is_ge (nat_cmp m n) ≡ nat_le n m
is_at_least m n = grind (arith, nat_tests)

at_least-Int : (m n : ℕ) → at_least (Int (pos m)) (Int (pos n)) ≡ nat_le n m
unfolding binary
at_least-Int m n = reported _ ∙ ap is_ge (ranked m n) ∙ is_at_least m n

-- ---- the rows

-- under any schema in which the texts mean these queries
module _ (old new : State) (schema : Schema) (has : old.now.schema ≡ schema) (names : List (List ℕ)) (content : Content) (keyed : IsKeyed content) (from most : ℕ) where
  abbrev params : Row
  params = Int (pos from) ∷ Int (pos most) ∷ []

  pub lists_demands_from_of : Reads schema demands_from_text (first_of (col 0 1) (from_table 9 from_tests open_demands_terms by_rowid)) names → AreRows 0 (map demand_row (entries content.demands)) (old.now.trees 9)
      → (rows : List Row) → Shown demands_from_text params old new rows → rows ≡ map listed_demand (take most (demands_from content from))
  lists_demands_from_of is are rows shown =
      demands_first old.now.trees content keyed are from_tests params most refl (λ e. nat_le from e.0) (λ d. nat_le from d.number) (λ e. and_true _ ∙ at_least-Int e.0 from) (λ d. refl) rows
      (reads_as demands_from_text params old new schema has _ is.command is.plain is.listing rows shown).answer

  pub lists_jobs_from_of : Reads schema jobs_from_text (first_of (col 0 1) (from_table 6 from_tests jobs_from_terms by_rowid)) names → AreRows 0 (map job_row (entries content.jobs)) (old.now.trees 6)
      → (rows : List Row) → Shown jobs_from_text params old new rows → rows ≡ map listed_job (take most (jobs_from content from))
  lists_jobs_from_of is are rows shown =
      let a = (reads_as jobs_from_text params old new schema has _ is.command is.plain is.listing rows shown).answer in
      let whole = first_answer 6 from_tests jobs_from_terms by_rowid (col 0 1) old.now.trees params rows a in
      let all : whole.0 ≡ map listed_job (jobs_from content from) =
      in_order nat_cmp_total nat_cmp-IsAntisymmetric 6 from_tests jobs_from_terms by_rowid (λ e. (Int (pos e.0) ∷ [], job_columns e.1 ++ number_row e.0)) (λ e f. by_number e.0 f.0) 0 old.now.trees params refl job_row (λ e. nat_le from e.0)
      (λ r. list_all (holds (params ∷ r ∷ [])) from_tests) (λ r. refl) (λ e. and_true _ ∙ at_least-Int e.0 from)
      (λ d. (column d 0 ∷ [], column d 2 ∷ column d 3 ∷ column d 4 ∷ column d 5 ∷ column d 0 ∷ [])) (λ r. refl) (λ e. refl) whole.0 content.jobs are whole.1
      ∙ of_values nat_cmp_total nat_cmp-IsAntisymmetric content.jobs (λ (j : Job). j.act) (λ number job found. (keyed.jobs number job found).numbered) _ (λ e. nat_le from e.0) (λ j. nat_le from j.act) (λ j. refl) in
      whole.2 ∙ ap (take most) all ∙ take-map listed_job most _

  pub lists_entries_from_of : Reads schema entries_from_text (first_of (col 0 1) (from_table 19 from_tests entries_from_terms by_rowid)) names → AreRows 0 (map journal_row (entries content.entries)) (old.now.trees 19)
      → (rows : List Row) → Shown entries_from_text params old new rows → rows ≡ map listed_entry (take most (entries_from content from))
  lists_entries_from_of is are rows shown =
      let a = (reads_as entries_from_text params old new schema has _ is.command is.plain is.listing rows shown).answer in
      let whole = first_answer 19 from_tests entries_from_terms by_rowid (col 0 1) old.now.trees params rows a in
      let all : whole.0 ≡ map listed_entry (entries_from content from) =
      in_order nat_cmp_total nat_cmp-IsAntisymmetric 19 from_tests entries_from_terms by_rowid (λ e. (Int (pos e.0) ∷ [], entry_columns e.1 ++ number_row e.0)) (λ e f. by_number e.0 f.0) 0 old.now.trees params refl journal_row (λ e. nat_le from e.0)
      (λ r. list_all (holds (params ∷ r ∷ [])) from_tests) (λ r. refl) (λ e. and_true _ ∙ at_least-Int e.0 from)
      (λ d. (column d 0 ∷ [], column d 2 ∷ column d 3 ∷ column d 4 ∷ column d 5 ∷ column d 6 ∷ column d 7 ∷ column d 8 ∷ column d 9 ∷ column d 10 ∷ column d 0 ∷ [])) (λ r. refl) (λ e. refl) whole.0 content.entries are whole.1
      ∙ of_values nat_cmp_total nat_cmp-IsAntisymmetric content.entries (λ (e : Entry). e.number) keyed.entries _ (λ e. nat_le from e.0) (λ e. nat_le from e.number) (λ e. refl) in
      whole.2 ∙ ap (take most) all ∙ take-map listed_entry most _

  pub lists_begun_from_of : Reads schema begun_from_text (first_of (col 0 1) (from_table 24 from_tests begun_from_terms by_rowid)) names → AreRows 0 (map begun_row (entries content.begun)) (old.now.trees 24)
      → (rows : List Row) → Shown begun_from_text params old new rows → rows ≡ map listed_begun (take most (begun_from content from))
  lists_begun_from_of is are rows shown =
      let a = (reads_as begun_from_text params old new schema has _ is.command is.plain is.listing rows shown).answer in
      let whole = first_answer 24 from_tests begun_from_terms by_rowid (col 0 1) old.now.trees params rows a in
      let all : whole.0 ≡ map listed_begun (begun_from content from) =
      in_order nat_cmp_total nat_cmp-IsAntisymmetric 24 from_tests begun_from_terms by_rowid (λ e. (Int (pos e.0) ∷ [], begun_columns e.1 ++ number_row e.0)) (λ e f. by_number e.0 f.0) 0 old.now.trees params refl begun_row (λ e. nat_le from e.0)
      (λ r. list_all (holds (params ∷ r ∷ [])) from_tests) (λ r. refl) (λ e. and_true _ ∙ at_least-Int e.0 from)
      (λ d. (column d 0 ∷ [], column d 2 ∷ column d 0 ∷ [])) (λ r. refl) (λ e. refl) whole.0 content.begun are whole.1
      ∙ of_values nat_cmp_total nat_cmp-IsAntisymmetric content.begun (λ (row : JobBegin). row.job) keyed.begun _ (λ e. nat_le from e.0) (λ row. nat_le from row.job) (λ row. refl) in
      whole.2 ∙ ap (take most) all ∙ take-map listed_begun most _

module _ (old new : State) (b : Books) (has : Shows old b) (from most : ℕ) where
  abbrev over : Schema
  over = shop old.now.schema has.schema

  pub lists_demands_from : (rows : List Row) → Shown demands_from_text (Int (pos from) ∷ Int (pos most) ∷ []) old new rows → rows ≡ map listed_demand (take most (demands_from b.content from))
  lists_demands_from = lists_demands_from_of old new over (shop_is old.now.schema has.schema) _ b.content has.keyed from most (demands_from_is old.now.schema has.schema) has.stands.demands

  pub lists_jobs_from : (rows : List Row) → Shown jobs_from_text (Int (pos from) ∷ Int (pos most) ∷ []) old new rows → rows ≡ map listed_job (take most (jobs_from b.content from))
  lists_jobs_from = lists_jobs_from_of old new over (shop_is old.now.schema has.schema) _ b.content has.keyed from most (jobs_from_is old.now.schema has.schema) has.stands.jobs

  pub lists_entries_from : (rows : List Row) → Shown entries_from_text (Int (pos from) ∷ Int (pos most) ∷ []) old new rows → rows ≡ map listed_entry (take most (entries_from b.content from))
  lists_entries_from = lists_entries_from_of old new over (shop_is old.now.schema has.schema) _ b.content has.keyed from most (entries_from_is old.now.schema has.schema) has.stands.journal

  pub lists_begun_from : (rows : List Row) → Shown begun_from_text (Int (pos from) ∷ Int (pos most) ∷ []) old new rows → rows ≡ map listed_begun (take most (begun_from b.content from))
  lists_begun_from = lists_begun_from_of old new over (shop_is old.now.schema has.schema) _ b.content has.keyed from most (begun_from_is old.now.schema has.schema) has.stands.begun
