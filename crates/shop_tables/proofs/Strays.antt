-- Entries out of their row: what the queries find that look for one.
use Rattle.std.proofs.Common.{◌≡◌, ◌≤◌, ℕ, pos, Bool, true, false, cond, List, [], ◌∷◌, codes, length, map, drop, filter, take, Some, IsSome, inl, inr, refl, sym, ap, subst, ◌∙◌, arith}
use Rattle.std.specs.Prelude.{nat_lt}
use Rattle.std.specs.List.{AllByRecursion, list_all}
use Rattle.std.specs.Ordering.{is_gt, is_lt, nat_cmp}
use Rattle.std.specs.Cmp.{nat_cmp_total}
use Rattle.std.specs.FinMap.{FinMap, entries, find, get, get-entries, nat_cmp-IsAntisymmetric}
use Rattle.std.proofs.lemmas.Bool.{cases_Bool}
use Rattle.std.proofs.lemmas.Bool.Decides.{nat_tests}
use Rattle.std.proofs.lemmas.List.{length-map}
use Rattle.std.proofs.lemmas.List.Sorted.{length_permutation}
use Rattle.sqlite_sql.specs.declared.ops.BinaryOp.TheVariants.{Compare}
use Rattle.sqlite_sql.specs.declared.ops.CompareOp.TheVariants.{Gt, Lt}
use Rattle.sqlite_sql.specs.Ops.{binary, is_true}
use Rattle.sqlite_value.specs.declared.keys.Collation.TheVariants.{Binary}
use Rattle.sqlite_value.specs.declared.value.Value.TheVariants.{Int}
use Rattle.sqlite_value.specs.Order.{Row}
use Rattle.sqlite_tied.specs.Compute.{everything}
use Rattle.sqlite.specs.Listing.{understood}
use Rattle.sqlite.specs.Tree.{Trees}
use Rattle.sqlite.specs.Schema.{Schema}
use Rattle.sqlite.specs.State.{State, Shown}
use Rattle.sqlite.specs.Term.{Term, col, holds, lit, op2}
use Rattle.sqlite.specs.Program.{IsProgramAnswer}
use Rattle.sqlite.proofs.Callers.{reads_as}
use Rattle.shop_records.proofs.Basics.{key_cases}
use Rattle.shop_records.specs.declared.journal.Entry.{Entry}
use Rattle.shop_statements.specs.Layout.{HasShopTables}
use Rattle.shop_statements.specs.Rows.{AreRows, journal_row}
use Rattle.shop_statements.specs.Selecting.{is_select}
use Rattle.shop_statements.specs.Shown.{Books, Shows}
use Rattle.shop_statements.proofs.Keys.{and_true, matched, reported}
use Rattle.shop_statements.proofs.Selects.{selected, selects}
use Rattle.shop_statements.proofs.Terms.{Reads, from_table}
use Rattle.shop_statements.proofs.Texts.{shop, shop_is}
use Rattle.shop_tables.specs.RowsFrom.{HasNoneBut}
use Rattle.shop_tables.proofs.Firsts.{each_entry, first_answer}
use Rattle.shop_tables.proofs.Listed.{ranked}
use Rattle.shop_tables.proofs.ListTexts.{first_of}

abbrev pub below_text : List ℕ
below_text = codes "SELECT entry FROM journal WHERE entry < ?1 LIMIT 1"

abbrev pub above_text : List ℕ
above_text = codes "SELECT entry FROM journal WHERE entry > ?1 LIMIT 1"

abbrev below_tests : List Term
below_tests = op2 (Compare Lt Binary) (col 1 0) (col 0 0) ∷ []

abbrev above_tests : List Term
above_tests = op2 (Compare Gt Binary) (col 1 0) (col 0 0) ∷ []

abbrev number_terms : List Term
number_terms = col 1 0 ∷ []

below_is : (schema : Schema) (h : HasShopTables schema) → Reads (shop schema h) below_text (first_of (lit (Int (pos 1))) (from_table 19 below_tests number_terms [])) (codes "entry" ∷ [])
unfolding understood everything
below_is schema h = record { command = refl; listing = refl; plain = (refl, refl) }

above_is : (schema : Schema) (h : HasShopTables schema) → Reads (shop schema h) above_text (first_of (lit (Int (pos 1))) (from_table 19 above_tests number_terms [])) (codes "entry" ∷ [])
unfolding understood everything
above_is schema h = record { command = refl; listing = refl; plain = (refl, refl) }

pub below_selects : is_select below_text ≡ true
unfolding everything
below_selects = refl

pub above_selects : is_select above_text ≡ true
unfolding everything
above_selects = refl

-- ---- tests of numbers

is_below : (m n : ℕ) → is_lt (nat_cmp m n) ≡ nat_lt m n
is_below m n = grind (arith, nat_tests)

is_above : (m n : ℕ) → is_gt (nat_cmp m n) ≡ nat_lt n m
is_above m n = grind (arith, nat_tests)

below-Int : (m n : ℕ) → is_true (binary (Compare Lt Binary) (Int (pos m)) (Int (pos n))) ≡ nat_lt m n
unfolding binary
below-Int m n = reported _ ∙ ap is_lt (ranked m n) ∙ is_below m n

above-Int : (m n : ℕ) → is_true (binary (Compare Gt Binary) (Int (pos m)) (Int (pos n))) ≡ nat_lt n m
unfolding binary
above-Int m n = reported _ ∙ ap is_gt (ranked m n) ∙ is_above m n

-- ---- what passes no test

module _ (t : ℕ → Bool) where
  none_pass : (es : List (ℕ × Entry)) → AllByRecursion (λ e. t e.0 ≡ false) es → length (filter (λ e. t e.0) es) ≡ 0
  none_pass [] h = refl
  none_pass (e ∷ es) h = ap (λ b. length (cond b (e ∷ filter (λ e. t e.0) es) (filter (λ e. t e.0) es))) h.0 ∙ none_pass es h.1

  all_fail : (es : List (ℕ × Entry)) → length (filter (λ e. t e.0) es) ≡ 0 → AllByRecursion (λ e. t e.0 ≡ false) es
  all_fail [] h = tt
  all_fail (e ∷ es) h = elim (cases_Bool (t e.0)) [
    | inl one ↦ absurd (let more = ap (λ b. length (cond b (e ∷ filter (λ e. t e.0) es) (filter (λ e. t e.0) es))) (sym one) ∙ h in omega (arith, more))
    | inr none ↦ (none, all_fail es (ap (λ b. length (cond b (e ∷ filter (λ e. t e.0) es) (filter (λ e. t e.0) es))) (sym none) ∙ h))
  ]

  found_fails : (n : ℕ) (es : List (ℕ × Entry)) → AllByRecursion (λ e. t e.0 ≡ false) es → IsSome (find nat_cmp n es) → t n ≡ false
  found_fails n [] h there = absurd (cc)
  found_fails n (e ∷ es) h there = elim (key_cases nat_cmp_total nat_cmp-IsAntisymmetric n e.0) [
    | inl is ↦ ap t is.0 ∙ h.0
    | inr other ↦ found_fails n es h.1 (subst IsSome (ap (λ b. cond b (Some e.1) (find nat_cmp n es)) other.1) there)
  ]

no_first : {X : Type 0} (xs : List X) → length xs ≡ 0 → take 1 xs ≡ []
no_first [] h = refl
no_first (x ∷ xs) h = absurd (omega (arith, h))

none_first : {X : Type 0} (xs : List X) → take 1 xs ≡ [] → length xs ≡ 0
none_first [] h = refl
none_first (x ∷ xs) h = absurd (cc)

module _ (db : Trees) (m : FinMap nat_cmp Entry) (are : AreRows 0 (map journal_row (entries m)) (db 19)) (tests : List Term) (params : Row) (t : ℕ → Bool) (passes : (e : ℕ × Entry) → list_all (holds (params ∷ journal_row e ∷ [])) tests ≡ t e.0) where
  strays : (rows : List Row) → IsProgramAnswer [] (first_of (lit (Int (pos 1))) (from_table 19 tests number_terms [])) db params rows
      → (((n : ℕ) → IsSome (get m n) → t n ≡ false) → rows ≡ []) × (rows ≡ [] → (n : ℕ) → IsSome (get m n) → t n ≡ false)
  strays rows a =
      let whole = first_answer 19 tests number_terms [] (lit (Int (pos 1))) db params rows a in
      let given = selected 19 tests number_terms [] db params refl whole.0 (selects 19 tests number_terms [] db params refl whole.0 whole.1) in
      let p = λ (r : Row). list_all (holds (params ∷ r ∷ [])) tests in
      let same = matched 0 journal_row (λ (e : ℕ × Entry). t e.0) p p (λ r. refl) passes (entries m) (db 19) are in
      let many : length whole.0 ≡ length (filter (λ (e : ℕ × Entry). t e.0) (entries m)) =
      length_permutation _ whole.0 given ∙ length-map (filter p (db 19)) _ ∙ sym (length-map (filter p (db 19)) (drop 0)) ∙ length_permutation _ _ same ∙ length-map _ journal_row in (
        λ none. whole.2 ∙ no_first whole.0 (many ∙ none_pass t (entries m) (each_entry nat_cmp_total nat_cmp-IsAntisymmetric m (λ e. t e.0 ≡ false) (λ n x found. none n (subst IsSome (sym found) refl)))),
        λ empty n there. found_fails t n (entries m) (all_fail t (entries m) (sym many ∙ none_first whole.0 (sym whole.2 ∙ empty))) (subst IsSome (get-entries m n) there),
      )

not_below : (n number : ℕ) → nat_lt n number ≡ false → number ≤ n
not_below n number h = grind (arith, nat_tests)

is_no_less : (n number : ℕ) → number ≤ n → nat_lt n number ≡ false
is_no_less n number h = grind (arith, nat_tests)

module _ (old new : State) (b : Books) (has : Shows old b) (number : ℕ) where
  pub finds_below : (rows : List Row) → Shown below_text (Int (pos number) ∷ []) old new rows → HasNoneBut (λ n. number ≤ n) b.content rows
  finds_below rows shown =
      let is = below_is old.now.schema has.schema in
      let a = (reads_as below_text (Int (pos number) ∷ []) old new (shop old.now.schema has.schema) (shop_is old.now.schema has.schema) _ is.command is.plain is.listing rows shown).answer in
      let s = strays old.now.trees b.content.entries has.stands.journal below_tests (Int (pos number) ∷ []) (λ n. nat_lt n number) (λ e. and_true _ ∙ below-Int e.0 number) rows a in
      (λ all. s.0 (λ n there. is_no_less n number (all n there)), λ empty n there. not_below n number (s.1 empty n there))

  pub finds_above : (rows : List Row) → Shown above_text (Int (pos number) ∷ []) old new rows → HasNoneBut (λ n. n ≤ number) b.content rows
  finds_above rows shown =
      let is = above_is old.now.schema has.schema in
      let a = (reads_as above_text (Int (pos number) ∷ []) old new (shop old.now.schema has.schema) (shop_is old.now.schema has.schema) _ is.command is.plain is.listing rows shown).answer in
      let s = strays old.now.trees b.content.entries has.stands.journal above_tests (Int (pos number) ∷ []) (λ n. nat_lt number n) (λ e. and_true _ ∙ above-Int e.0 number) rows a in
      (λ all. s.0 (λ n there. is_no_less number n (all n there)), λ empty n there. not_below number n (s.1 empty n there))
