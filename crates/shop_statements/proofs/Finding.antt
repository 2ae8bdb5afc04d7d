-- What the query of each table finds by its key.
use Rattle.std.proofs.Common.{◌≡◌, ℕ, pos, Bool, true, ◌&&◌, List, [], ◌∷◌, drop, map, filter, Some, option_map, refl, subst, ◌∙◌, IsPermutation}
use Rattle.std.proofs.lemmas.List.Sorted.{IsPermutation-trans}
use Rattle.sqlite.proofs.Callers.{one_permutation, reads_as}
use Rattle.std.specs.Option.{option_to_list}
use Rattle.std.specs.declared.cmp.Ordering.TheVariants.{Less, Equal, Greater}
use Rattle.std.specs.Ordering.{eq_by_cmp, is_eq, nat_cmp, ordering_then}
use Rattle.std.specs.Cmp.{IsTotalOrder, nat_cmp_total, on_total, then_total}
use Rattle.std.specs.Cmp.Lexicographic.{nat_list_cmp_total}
use Rattle.std.specs.FinMap.{IsAntisymmetric, get, nat_cmp-IsAntisymmetric, slice_cmp-IsAntisymmetric}
use Rattle.sqlite_value.specs.declared.value.Value.TheVariants.{Int, Text, Null}
use Rattle.sqlite_value.specs.Order.{Row, column}
use Rattle.sqlite_value.proofs.KeyLemmas.{then_tied}
use Rattle.sqlite.specs.Schema.{Schema}
use Rattle.sqlite.specs.State.{State, Shown}
use Rattle.cut_measure.specs.Codes.{code_cmp}
use Rattle.cut_measure.specs.Names.{Name, name_cmp}
use Rattle.shop_records.specs.Content.{message_id_cmp}
use Rattle.shop_records.specs.declared.texts.MessageId.{MessageId}
use Rattle.shop_statements.specs.declared.uses.JobOrder.{JobOrder}
use Rattle.shop_statements.specs.Rows.{AreRows, meta_row, meta_entries, note_columns, note_row, halt_columns, halt_row, kept_columns, kept_row, import_columns, import_row, entry_columns, journal_row, use_cmp}
use Rattle.shop_statements.specs.Shown.{Books, Shows}
use Rattle.shop_statements.proofs.Selects.{selects, selected}
use Rattle.shop_statements.proofs.Terms.{Reads, from_table}
use Rattle.shop_statements.proofs.Keys.{equal, equal-Int, equal-Text, and_true, shown_as}
use Rattle.shop_statements.proofs.Texts.{shop, shop_is, by_one, get_meta_text, get_meta_terms, get_meta_is, get_kept_text, get_kept_terms, get_kept_is, get_import_text, get_import_terms, get_import_is, get_entry_text, get_entry_terms, get_entry_is, get_note_text, get_note_terms, get_note_is, get_halt_text, get_halt_terms, get_halt_is, by_two, by_number}
use Rattle.shop_statements.proofs.Reading.{asked, finds}

pub code_total : IsTotalOrder code_cmp
code_total = nat_list_cmp_total

pub code_same : IsAntisymmetric code_cmp
code_same = slice_cmp-IsAntisymmetric nat_cmp-IsAntisymmetric

pub name_total : IsTotalOrder name_cmp
name_total = then_total (on_total (λ (n : Name). n.act) nat_cmp_total) (on_total (λ (n : Name). n.node) nat_cmp_total)

pub name_same : IsAntisymmetric name_cmp
name_same x y e =
    let parts = then_tied (nat_cmp x.act y.act) (nat_cmp x.node y.node) e in
    λ i. record { act = nat_cmp-IsAntisymmetric x.act y.act parts.0 i; node = nat_cmp-IsAntisymmetric x.node y.node parts.1 i }

pub message_id_total : IsTotalOrder message_id_cmp
message_id_total = then_total (on_total (λ (p : MessageId). p.terminal) nat_cmp_total) (on_total (λ (p : MessageId). p.number) nat_cmp_total)

pub message_id_same : IsAntisymmetric message_id_cmp
message_id_same x y e =
    let parts = then_tied (nat_cmp x.terminal y.terminal) (nat_cmp x.number y.number) e in
    λ i. record { terminal = nat_cmp-IsAntisymmetric x.terminal y.terminal parts.0 i; number = nat_cmp-IsAntisymmetric x.number y.number parts.1 i }

pub use_total : IsTotalOrder use_cmp
use_total = then_total (on_total (λ (u : JobOrder). u.job) nat_cmp_total) (on_total (λ (u : JobOrder). u.order) code_total)

pub use_same : IsAntisymmetric use_cmp
use_same x y e =
    let parts = then_tied (nat_cmp x.job y.job) (code_cmp x.order y.order) e in
    λ i. record { job = nat_cmp-IsAntisymmetric x.job y.job parts.0 i; order = code_same x.order y.order parts.1 i }

-- two numbers are tested as two orders, one after the other
pub both_equal : (a b m n : ℕ) → (is_eq (nat_cmp a m) && (is_eq (nat_cmp b n) && true)) ≡ is_eq (ordering_then (nat_cmp a m) (nat_cmp b n))
both_equal a b m n = elim (nat_cmp a m) as (λ o. (is_eq o && (is_eq (nat_cmp b n) && true)) ≡ is_eq (ordering_then o (nat_cmp b n))) [
  | Less ↦ refl
  | Equal ↦ and_true _
  | Greater ↦ refl
]

abbrev pub is_two : ℕ → ℕ → Row → Bool
is_two m n d = equal (column d 0) (Int (pos m)) && (equal (column d 1) (Int (pos n)) && true)

pub two_tests : (a b m n : ℕ) (d : Row) → is_two m n (Int (pos a) ∷ Int (pos b) ∷ d) ≡ is_eq (ordering_then (nat_cmp a m) (nat_cmp b n))
two_tests a b m n d = (λ i. equal-Int a m i && (equal-Int b n i && true)) ∙ both_equal a b m n

abbrev pub is_word : List ℕ → Row → Bool
is_word code d = equal (column d 0) (Text code) && true

pub word_tests : (a code : List ℕ) (d : Row) → is_word code (Text a ∷ d) ≡ is_eq (code_cmp a code)
word_tests a code d = and_true _ ∙ equal-Text a code

abbrev pub is_number : ℕ → Row → Bool
is_number n d = equal (column d 0) (Int (pos n)) && true

pub number_tests : (a n : ℕ) (d : Row) → is_number n (Int (pos a) ∷ d) ≡ is_eq (nat_cmp a n)
number_tests a n d = and_true _ ∙ equal-Int a n

pub word_later : (code : List ℕ) (r : Row) → (equal (column r 1) (Text code) && true) ≡ is_word code (drop 1 r)
word_later code [] = refl
word_later code (x ∷ d) = refl

pub two_later : (m n : ℕ) (r : Row) → (equal (column r 1) (Int (pos m)) && (equal (column r 2) (Int (pos n)) && true)) ≡ is_two m n (drop 1 r)
two_later m n [] = refl
two_later m n (x ∷ d) = refl

abbrev material_shown : Row → Row
material_shown d = column d 1 ∷ column d 2 ∷ column d 3 ∷ column d 4 ∷ []

material_shown_later : (r : Row) → column r 2 ∷ column r 3 ∷ column r 4 ∷ column r 5 ∷ [] ≡ material_shown (drop 1 r)
material_shown_later [] = refl
material_shown_later (x ∷ d) = refl

abbrev kept_shown : Row → Row
kept_shown d = column d 2 ∷ column d 3 ∷ []

kept_shown_later : (r : Row) → column r 3 ∷ column r 4 ∷ [] ≡ kept_shown (drop 1 r)
kept_shown_later [] = refl
kept_shown_later (x ∷ d) = refl

module _ (old new : State) (rows : List Row) (b : Books) (has : Shows old b) where
  pub finds_kept : (k : MessageId) → Shown get_kept_text (Int (pos k.terminal) ∷ Int (pos k.number) ∷ []) old new rows → rows ≡ option_to_list (option_map kept_columns (get b.content.kept k))
  finds_kept k shown =
      finds message_id_total message_id_same 1 kept_row (λ e. kept_columns e.1) b.content.kept k _ (is_two k.terminal k.number) (two_later k.terminal k.number) (λ e. two_tests e.0.terminal e.0.number k.terminal k.number (kept_columns e.1)) _ kept_shown kept_shown_later (λ e. refl) _ rows has.stands.kept
      (asked old new has.schema get_kept_text (Int (pos k.terminal) ∷ Int (pos k.number) ∷ []) 11 by_two get_kept_terms _ (get_kept_is old.now.schema has.schema) refl rows shown)

  pub finds_import : (code : List ℕ) → Shown get_import_text (Text code ∷ []) old new rows → rows ≡ option_to_list (option_map import_columns (get b.content.imports code))
  finds_import code shown =
      finds code_total code_same 1 import_row (λ e. import_columns e.1) b.content.imports code _ (is_word code) (word_later code) (λ e. word_tests e.0 code (import_columns e.1)) _ material_shown material_shown_later (λ e. refl) _ rows has.stands.imports
      (asked old new has.schema get_import_text (Text code ∷ []) 13 by_one get_import_terms _ (get_import_is old.now.schema has.schema) refl rows shown)

abbrev entry_shown : Row → Row
entry_shown d = column d 2 ∷ column d 3 ∷ column d 4 ∷ column d 5 ∷ column d 6 ∷ column d 7 ∷ column d 8 ∷ column d 9 ∷ column d 10 ∷ []

module _ (old new : State) (rows : List Row) (b : Books) (has : Shows old b) where
  pub finds_entry : (n : ℕ) → Shown get_entry_text (Int (pos n) ∷ []) old new rows → rows ≡ option_to_list (option_map entry_columns (get b.content.entries n))
  finds_entry n shown =
      finds nat_cmp_total nat_cmp-IsAntisymmetric 0 journal_row (λ e. entry_columns e.1) b.content.entries n _ (is_number n) (λ r. refl) (λ e. number_tests e.0 n (Null ∷ entry_columns e.1)) _ entry_shown (λ r. refl) (λ e. refl) _ rows has.stands.journal
      (asked old new has.schema get_entry_text (Int (pos n) ∷ []) 19 by_number get_entry_terms _ (get_entry_is old.now.schema has.schema) refl rows shown)

abbrev note_shown : Row → Row
note_shown d = column d 1 ∷ column d 2 ∷ []

note_shown_later : (r : Row) → column r 2 ∷ column r 3 ∷ [] ≡ note_shown (drop 1 r)
note_shown_later [] = refl
note_shown_later (x ∷ d) = refl

abbrev halt_shown : Row → Row
halt_shown d = column d 2 ∷ []

module _ (old new : State) (rows : List Row) (b : Books) (has : Shows old b) where
  pub finds_note : (code : List ℕ) → Shown get_note_text (Text code ∷ []) old new rows → rows ≡ option_to_list (option_map note_columns (get b.content.notes code))
  finds_note code shown =
      finds code_total code_same 1 note_row (λ e. note_columns e.1) b.content.notes code _ (is_word code) (word_later code) (λ e. word_tests e.0 code (note_columns e.1)) _ note_shown note_shown_later (λ e. refl) _ rows has.stands.notes
      (asked old new has.schema get_note_text (Text code ∷ []) 22 by_one get_note_terms _ (get_note_is old.now.schema has.schema) refl rows shown)

  pub finds_halt : (n : ℕ) → Shown get_halt_text (Int (pos n) ∷ []) old new rows → rows ≡ option_to_list (option_map halt_columns (get b.content.halts n))
  finds_halt n shown =
      finds nat_cmp_total nat_cmp-IsAntisymmetric 0 halt_row (λ e. halt_columns e.1) b.content.halts n _ (is_number n) (λ r. refl) (λ e. number_tests e.0 n (Null ∷ halt_columns e.1)) _ halt_shown (λ r. refl) (λ e. refl) _ rows has.stands.halts
      (asked old new has.schema get_halt_text (Int (pos n) ∷ []) 25 by_number get_halt_terms _ (get_halt_is old.now.schema has.schema) refl rows shown)

abbrev pub meta_shown : Row → Row
meta_shown d = column d 1 ∷ []

meta_shown_later : (r : Row) → ◌≡◌ {A = Row} (column r 2 ∷ []) (meta_shown (drop 1 r))
meta_shown_later [] = refl
meta_shown_later (x ∷ d) = refl

turned : {A B : Type 0} (f : A → B) (xs ys : List A) (zs : List B) → xs ≡ ys → IsPermutation (map f xs) zs → IsPermutation (map f ys) zs
turned f xs ys zs e h = subst (λ l. IsPermutation (map f l) zs) e h

-- the number under a word that stands once, under any schema in which the text means this
pub finds_number_of : (old new : State) (schema : Schema) (has : old.now.schema ≡ schema) (names : List (List ℕ)) → Reads schema get_meta_text (from_table 0 by_one get_meta_terms []) names → (es : List (List ℕ × ℕ))
    → AreRows 1 (map meta_row es) (old.now.trees 0) → (rows : List Row) (code : List ℕ) (n : ℕ) → filter (λ e. eq_by_cmp code_cmp e.0 code) es ≡ (code, n) ∷ [] → Shown get_meta_text (Text code ∷ []) old new rows
    → rows ≡ option_to_list (Some (Int (pos n) ∷ []))
finds_number_of old new schema has names is es are rows code n once shown =
    let whole = shown_as 1 meta_row (λ e. eq_by_cmp code_cmp e.0 code) _ (is_word code) (word_later code) (λ e. word_tests e.0 code (Int (pos e.1) ∷ [])) _ meta_shown (λ e. Int (pos e.1) ∷ []) meta_shown_later (λ e. refl) es _ are in
    let a = (reads_as get_meta_text (Text code ∷ []) old new schema has _ is.command is.plain is.listing rows shown).answer in
    one_permutation (Int (pos n) ∷ []) rows
    (IsPermutation-trans _ _ _ (turned (λ (e : List ℕ × ℕ). Int (pos e.1) ∷ []) _ _ _ once whole)
    (selected 0 by_one get_meta_terms [] old.now.trees (Text code ∷ []) refl rows (selects 0 by_one get_meta_terms [] old.now.trees (Text code ∷ []) refl rows a)))

pub finds_number : (old new : State) (rows : List Row) (b : Books) → Shows old b → (code : List ℕ) (n : ℕ) → filter (λ e. eq_by_cmp code_cmp e.0 code) (meta_entries b.content) ≡ (code, n) ∷ []
    → Shown get_meta_text (Text code ∷ []) old new rows → rows ≡ option_to_list (Some (Int (pos n) ∷ []))
finds_number old new rows b has = finds_number_of old new (shop old.now.schema has.schema) (shop_is old.now.schema has.schema) _ (get_meta_is old.now.schema has.schema) (meta_entries b.content) has.stands.meta rows
