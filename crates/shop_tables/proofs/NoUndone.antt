-- Rows with the states of undone parts and jobs in tables of versions 1 and 2.
use Rattle.std.proofs.Common.{◌≡◌, ◌≢◌, ◌==◌, ◌&&◌, ℕ, pos, Bool, true, false, cond, List, [], ◌∷◌, codes, length, map, drop, filter, Some, Result, Ok, Err, OnOk, IsTrue, inl, inr, refl, sym, ap, subst, ◌∙◌, arith, IsPermutation}
use Rattle.std.specs.Bool.{Decides}
use Rattle.std.specs.List.{AllByRecursion}
use Rattle.std.specs.Cmp.{nat_cmp_total}
use Rattle.std.specs.FinMap.{entries, nat_cmp-IsAntisymmetric}
use Rattle.std.specs.Ordering.{is_eq, nat_cmp}
use Rattle.std.specs.declared.cmp.Ordering.TheVariants.{Equal}
use Rattle.std.proofs.lemmas.Bool.{eqb-true}
use Rattle.std.proofs.lemmas.List.Sorted.{IsPermutation-sym}
use Rattle.sqlite_value.specs.declared.value.Value.TheVariants.{Int}
use Rattle.sqlite_value.specs.Order.{Row, column}
use Rattle.sqlite_trees.specs.Tree.{Trees}
use Rattle.sqlite_tied.specs.Compute.{everything}
use Rattle.sqlite.specs.Listing.{understood}
use Rattle.sqlite.specs.Query.{limited}
use Rattle.sqlite.specs.Schema.{Schema}
use Rattle.sqlite.specs.State.{State, HasCleanDisk, Shown}
use Rattle.sqlite.specs.Term.{Term, col, lit}
use Rattle.sqlite.proofs.Callers.{reads_as}
use Rattle.shop_records.specs.Content.{Content}
use Rattle.shop_records.proofs.Basics.{untied}
use Rattle.shop_statements.specs.Earlier.{HasNoneLater, earlier_schema, second_schema}
use Rattle.shop_statements.specs.Found.{columns_of}
use Rattle.shop_statements.specs.Rows.{AreRows, job_row, job_state_number, part_row, state_number}
use Rattle.shop_statements.specs.Selecting.{is_select}
use Rattle.shop_statements.specs.Shown.{Leaves}
use Rattle.shop_statements.proofs.Finding.{name_same, name_total}
use Rattle.shop_statements.proofs.Keys.{and_true, equal, equal-Int, matched, none_permutation}
use Rattle.shop_statements.proofs.Terms.{Reads, from_table, same}
use Rattle.shop_tables.specs.Adopting.{HasEarlyTables, HasNoUndone, is_undone_job, is_undone_part}
use Rattle.shop_tables.specs.RowsShown.{AreShown, SeesCommit}
use Rattle.shop_tables.specs.declared.adopting.AdoptFault.{AdoptFault}
use Rattle.shop_tables.specs.declared.adopting.Adopted.{Adopted}
use Rattle.shop_tables.proofs.Firsts.{each_entry}
use Rattle.shop_tables.proofs.ListTexts.{first_of}
use Rattle.shop_tables.proofs.RowsAsShown.{shown_first}

abbrev pub undone_parts_text : List ℕ
undone_parts_text = codes "SELECT act FROM parts WHERE state = 7 LIMIT 1"

abbrev part_tests : List Term
part_tests = same (col 1 11) (lit (Int (pos 7))) ∷ []

abbrev part_terms : List Term
part_terms = col 1 1 ∷ []

abbrev pub undone_jobs_text : List ℕ
undone_jobs_text = codes "SELECT job FROM jobs WHERE state = 4 LIMIT 1"

abbrev job_tests : List Term
job_tests = same (col 1 5) (lit (Int (pos 4))) ∷ []

abbrev job_terms : List Term
job_terms = col 1 0 ∷ []

earlier_parts_is : Reads earlier_schema undone_parts_text (first_of (lit (Int (pos 1))) (from_table 4 part_tests part_terms [])) (codes "act" ∷ [])
unfolding understood everything
earlier_parts_is = record { command = refl; listing = refl; plain = (refl, refl) }

second_parts_is : Reads second_schema undone_parts_text (first_of (lit (Int (pos 1))) (from_table 4 part_tests part_terms [])) (codes "act" ∷ [])
unfolding understood everything
second_parts_is = record { command = refl; listing = refl; plain = (refl, refl) }

earlier_jobs_is : Reads earlier_schema undone_jobs_text (first_of (lit (Int (pos 1))) (from_table 6 job_tests job_terms [])) (codes "job" ∷ [])
unfolding understood everything
earlier_jobs_is = record { command = refl; listing = refl; plain = (refl, refl) }

second_jobs_is : Reads second_schema undone_jobs_text (first_of (lit (Int (pos 1))) (from_table 6 job_tests job_terms [])) (codes "job" ∷ [])
unfolding understood everything
second_jobs_is = record { command = refl; listing = refl; plain = (refl, refl) }

pub undone_parts_selects : is_select undone_parts_text ≡ true
unfolding everything
undone_parts_selects = refl

pub undone_jobs_selects : is_select undone_jobs_text ≡ true
unfolding everything
undone_jobs_selects = refl

-- ---- one of the rows that pass is shown where there are any, and none else

abbrev pub ShowsNone : (Row → Bool) → List Row → List Row → Type 0
ShowsNone passes stored given = (given ≡ [] → filter passes stored ≡ []) × (filter passes stored ≡ [] → given ≡ [])

unshown : (shown : Row → Row) (rows : List Row) → map shown (limited (Some 1) rows) ≡ [] → rows ≡ []
unshown shown [] h = refl
unshown shown (row ∷ rows) h = absurd (cc)

nothing_passes : (shown : Row → Row) (passes : Row → Bool) (stored given : List Row) → AreShown shown (λ a b. Equal) (Some 1) passes stored given → ShowsNone passes stored given
nothing_passes shown passes stored given are = (
  λ none. none_permutation (filter passes stored) (IsPermutation-sym _ _ (subst (IsPermutation (filter passes stored)) (unshown shown are.rows (sym are.are ∙ none)) are.same)),
  λ none. are.are ∙ ap (λ rows. map shown (limited (Some 1) rows)) (none_permutation are.rows (subst (λ rows. IsPermutation rows are.rows) none are.same)),
)

module _ (old new : State) (schema : Schema) (has : old.now.schema ≡ schema) (names : List (List ℕ)) where
  parts_of : Reads schema undone_parts_text (first_of (lit (Int (pos 1))) (from_table 4 part_tests part_terms [])) names → (rows : List Row) → Shown undone_parts_text [] old new rows → ShowsNone is_undone_part (old.now.trees 4) rows
  parts_of is rows shown =
      nothing_passes (columns_of 1 1) is_undone_part (old.now.trees 4) rows
      (shown_first 4 part_tests part_terms [] old.now.trees [] refl (columns_of 1 1) (λ a b. Equal) is_undone_part (λ r. and_true (is_undone_part r)) (λ a b. refl) (λ r. refl) (lit (Int (pos 1))) 1 refl rows
      (reads_as undone_parts_text [] old new schema has _ is.command is.plain is.listing rows shown).answer)

  jobs_of : Reads schema undone_jobs_text (first_of (lit (Int (pos 1))) (from_table 6 job_tests job_terms [])) names → (rows : List Row) → Shown undone_jobs_text [] old new rows → ShowsNone is_undone_job (old.now.trees 6) rows
  jobs_of is rows shown =
      nothing_passes (columns_of 1 0) is_undone_job (old.now.trees 6) rows
      (shown_first 6 job_tests job_terms [] old.now.trees [] refl (columns_of 1 0) (λ a b. Equal) is_undone_job (λ r. and_true (is_undone_job r)) (λ a b. refl) (λ r. refl) (lit (Int (pos 1))) 1 refl rows
      (reads_as undone_jobs_text [] old new schema has _ is.command is.plain is.listing rows shown).answer)

pub undone_parts_shown : (old new : State) → HasEarlyTables old.now.schema → (rows : List Row) → Shown undone_parts_text [] old new rows → ShowsNone is_undone_part (old.now.trees 4) rows
undone_parts_shown old new (inl has) = parts_of old new second_schema has _ second_parts_is
undone_parts_shown old new (inr has) = parts_of old new earlier_schema has _ earlier_parts_is

pub undone_jobs_shown : (old new : State) → HasEarlyTables old.now.schema → (rows : List Row) → Shown undone_jobs_text [] old new rows → ShowsNone is_undone_job (old.now.trees 6) rows
undone_jobs_shown old new (inl has) = jobs_of old new second_schema has _ second_jobs_is
undone_jobs_shown old new (inr has) = jobs_of old new earlier_schema has _ earlier_jobs_is

-- the answer decides it
pub decides_none : (answer : Bool) (given rows : List Row) → answer ≡ (length given == 0) → (given ≡ [] → rows ≡ []) × (rows ≡ [] → given ≡ []) → Decides answer (rows ≡ [])
decides_none answer [] rows is none = (λ yes. none.0 refl, λ empty. is)
decides_none answer (row ∷ given) rows is none = (λ yes. absurd (let e = eqb-true (length (row ∷ given)) 0 (sym is ∙ yes) in omega (arith, e)), λ empty. absurd (let e = none.1 empty in cc))

pub decides_both : (a b : Bool) (P Q : Type 0) → Decides a P → Decides b Q → Decides (a && b) (P × Q)
decides_both true b P Q p q = (λ yes. (p.0 refl, q.0 yes), λ both. q.1 both.1)
decides_both false b P Q p q = (λ yes. absurd (cc), λ both. p.1 both.0)

-- ---- tables that stand for books of these versions have none

no_map : {A B : Type 0} (f : A → B) (xs : List A) → map f xs ≡ [] → xs ≡ []
no_map f [] h = refl
no_map f (x ∷ xs) h = absurd (cc)

none_filtered : {A : Type 0} (t : A → Bool) (xs : List A) → AllByRecursion (λ x. t x ≡ false) xs → filter t xs ≡ []
none_filtered t [] h = refl
none_filtered t (x ∷ xs) h = ap (λ b. cond b (x ∷ filter t xs) (filter t xs)) h.0 ∙ none_filtered t xs h.1

module _ {E : Type 0} (skip : ℕ) (row_of : E → Row) (t : E → Bool) (p q : Row → Bool) (later : (r : Row) → p r ≡ q (drop skip r)) (tests : (e : E) → q (row_of e) ≡ t e) where
  none_stored : (es : List E) (stored : List Row) → AreRows skip (map row_of es) stored → AllByRecursion (λ e. t e ≡ false) es → filter p stored ≡ []
  none_stored es stored are none =
      no_map (drop skip) (filter p stored)
      (none_permutation _ (subst (λ l. IsPermutation (map row_of l) (map (drop skip) (filter p stored))) (none_filtered t es none) (matched skip row_of t p q later tests es stored are)))

differs : (m n : ℕ) → m ≢ n → is_eq (nat_cmp m n) ≡ false
differs m n other = untied nat_cmp_total nat_cmp-IsAntisymmetric m n other

pub no_undone : (db : Trees) (m : Content) → HasNoneLater m → AreRows 1 (map part_row (entries m.parts)) (db 4) → AreRows 0 (map job_row (entries m.jobs)) (db 6) → HasNoUndone db
no_undone db m later parts jobs = (
  none_stored 1 part_row (λ e. is_eq (nat_cmp (state_number e.1.state) 7)) is_undone_part (λ d. equal (column d 10) (Int (pos 7))) part_later (λ e. equal-Int (state_number e.1.state) 7) (entries m.parts) (db 4) parts
      (each_entry name_total name_same m.parts (λ e. is_eq (nat_cmp (state_number e.1.state) 7) ≡ false) (λ name part found. differs (state_number part.state) 7 (later.parts name part found))),
  none_stored 0 job_row (λ e. is_eq (nat_cmp (job_state_number e.1.state) 4)) is_undone_job is_undone_job (λ r. refl) (λ e. equal-Int (job_state_number e.1.state) 4) (entries m.jobs) (db 6) jobs
      (each_entry nat_cmp_total nat_cmp-IsAntisymmetric m.jobs (λ e. is_eq (nat_cmp (job_state_number e.1.state) 4) ≡ false) (λ number job found. differs (job_state_number job.state) 4 (later.jobs number job found))),
)
  where
    part_later : (r : Row) → is_undone_part r ≡ equal (column (drop 1 r) 10) (Int (pos 7))
    part_later [] = refl
    part_later (x ∷ d) = refl

-- ---- after a reading

pub ok_so : {X E A : Type 0} (r : Result X E) → A → OnOk r A
ok_so (Ok x) h = h
ok_so (Err e) h = tt

pub no_undone_along : (r : Result Adopted AdoptFault) (old mid : State) → Leaves old mid → HasCleanDisk mid → SeesCommit old → HasEarlyTables old.now.schema → OnOk r (IsTrue mid.is_open)
    → (HasEarlyTables mid.now.schema → SeesCommit mid → OnOk r (HasNoUndone mid.now.trees)) → OnOk r (HasNoUndone old.now.trees)
no_undone_along (Ok x) old mid left clean sees early up then =
    let was = left.as_was clean up in
    let now = was.now (sees was.was_open) in
    subst (λ db. HasNoUndone db.trees) now (then (subst (λ db. HasEarlyTables db.schema) (sym now) early) (λ _. was.committed (sees was.was_open)))
no_undone_along (Err e) old mid left clean sees early up then = tt
