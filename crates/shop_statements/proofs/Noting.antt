-- What the statements on notes, begun jobs and halts make of the books.
use Rattle.std.proofs.Common.{◌≡◌, ℕ, pos, List, [], ◌∷◌, None, Ok, refl, sym, subst}
use Rattle.std.specs.Cmp.{nat_cmp_total}
use Rattle.std.specs.FinMap.{get, insert, nat_cmp-IsAntisymmetric, remove}
use Rattle.sqlite_value.specs.declared.value.Value.TheVariants.{Int, Text, Null}
use Rattle.sqlite.specs.State.{State, Executes}
use Rattle.sqlite_rules.specs.Edit.{next_rowid}
use Rattle.shop_records.specs.declared.notes.OrderNote.{OrderNote}
use Rattle.shop_records.specs.declared.records.JobBegin.{JobBegin}
use Rattle.shop_records.specs.declared.records.JobHalt.{JobHalt}
use Rattle.shop_statements.specs.Changes.{with_begun, with_halt, with_note, without_begun, without_note}
use Rattle.shop_statements.specs.Halts.{IsHaltValue, halt_text}
use Rattle.shop_statements.specs.Layout.{begun_table, halts_table, loosened, notes_table}
use Rattle.shop_statements.specs.Rows.{AreRows, begun_columns, begun_row, halt_columns, halt_row, note_columns, note_row}
use Rattle.shop_statements.specs.Shown.{Books, Shows}
use Rattle.shop_statements.proofs.Finding.{code_total, code_same, is_number, is_word, number_tests, word_later, word_tests}
use Rattle.shop_statements.proofs.KeyedRows.{each_left, each_then, with_begun_keyed, with_halts_keyed, with_notes_keyed}
use Rattle.shop_statements.proofs.Keys.{cast-Int, cast-Null, news_are, news_keyed}
use Rattle.shop_statements.proofs.Maps.{get_removed, insert_removed}
use Rattle.shop_statements.proofs.Standing.{begun_shown, halts_shown, notes_shown}
use Rattle.shop_statements.proofs.Texts.{by_number, by_one, clear_begun_is, clear_begun_text, clear_note_is, clear_note_text, put_begun_is, put_begun_terms, put_begun_text, put_halt_is, put_halt_terms, put_halt_text, put_note_is, put_note_terms, put_note_text}
use Rattle.shop_statements.proofs.Writing.{alone, clears, puts, rows_with, rows_without, taken}

module _ (old new : State) (count : ℕ) (b : Books) (has : Shows old b) where
  pub clears_note : (k : List ℕ) → Executes clear_note_text (Text k ∷ []) old new (Ok count) → Shows new (without_note k b)
  clears_note k ran =
      let it = clears old new has.schema clear_note_text (Text k ∷ []) 12 (loosened has.schema.notes notes_table) refl by_one (clear_note_is old.now.schema has.schema) refl count ran in
      let rows =
      rows_without code_total code_same 1 note_row (old.now.trees 22) (taken old new has.schema clear_note_text (Text k ∷ []) 12 (loosened has.schema.notes notes_table) refl by_one (clear_note_is old.now.schema has.schema) refl) (is_word k) (word_later k) b.content.notes k
      (λ e. word_tests e.0 k (note_columns e.1)) has.stands.notes it.ids it.given in
      notes_shown old new b has (remove b.content.notes k) it.alone (subst (AreRows 1 _) (sym it.rows) rows)
      (with_notes_keyed b.content has.keyed (remove b.content.notes k) (each_left code_total code_same (λ order (row : OrderNote). row.order ≡ order) b.content.notes k has.keyed.notes))

  pub clears_begun : (k : ℕ) → Executes clear_begun_text (Int (pos k) ∷ []) old new (Ok count) → Shows new (without_begun k b)
  clears_begun k ran =
      let it = clears old new has.schema clear_begun_text (Int (pos k) ∷ []) 13 (loosened has.schema.begun begun_table) refl by_number (clear_begun_is old.now.schema has.schema) refl count ran in
      let rows =
      rows_without nat_cmp_total nat_cmp-IsAntisymmetric 0 begun_row (old.now.trees 24) (taken old new has.schema clear_begun_text (Int (pos k) ∷ []) 13 (loosened has.schema.begun begun_table) refl by_number (clear_begun_is old.now.schema has.schema) refl) (is_number k) (λ r. refl) b.content.begun k
      (λ e. number_tests e.0 k (Null ∷ begun_columns e.1)) has.stands.begun it.ids it.given in
      begun_shown old new b has (remove b.content.begun k) it.alone (subst (AreRows 0 _) (sym it.rows) rows)
      (with_begun_keyed b.content has.keyed (remove b.content.begun k) (each_left nat_cmp_total nat_cmp-IsAntisymmetric (λ number (row : JobBegin). row.job ≡ number) b.content.begun k has.keyed.begun))

  pub puts_note : (x : OrderNote) → get b.content.notes x.order ≡ None → Executes put_note_text (note_row (x.order, x)) old new (Ok count) → Shows new (with_note x b)
  puts_note x fresh ran =
      let id = next_rowid (old.now.trees 22) in
      let put = puts old new has.schema put_note_text (note_row (x.order, x)) 12 (loosened has.schema.notes notes_table) refl put_note_terms 4 (put_note_is old.now.schema has.schema) (Int id ∷ note_row (x.order, x)) count
      (news_are (loosened has.schema.notes notes_table) (note_row (x.order, x)) (old.now.trees 22) (λ i. Text x.order ∷ cast-Int (pos x.due) i ∷ Text x.text ∷ [])) ran in
      notes_shown old new b has (insert b.content.notes x.order x) (alone put) (rows_with code_total code_same 1 note_row old new 22 (Int id ∷ note_row (x.order, x)) id b.content.notes x.order x fresh refl refl has.stands.notes put)
      (with_notes_keyed b.content has.keyed (insert b.content.notes x.order x) (each_then code_total code_same (λ order (row : OrderNote). row.order ≡ order) b.content.notes x.order x has.keyed.notes refl))

  pub puts_begun : (x : JobBegin) → get b.content.begun x.job ≡ None → Executes put_begun_text (Int (pos x.job) ∷ begun_columns x) old new (Ok count) → Shows new (with_begun x b)
  puts_begun x fresh ran =
      let put = puts old new has.schema put_begun_text (Int (pos x.job) ∷ begun_columns x) 13 (loosened has.schema.begun begun_table) refl put_begun_terms 3 (put_begun_is old.now.schema has.schema) (begun_row (x.job, x)) count
      (news_keyed (loosened has.schema.begun begun_table) (Null ∷ begun_columns x) (old.now.trees 24) (pos x.job) (λ i. cast-Null i ∷ cast-Int (pos x.terminal) i ∷ [])) ran in
      begun_shown old new b has (insert b.content.begun x.job x) (alone put) (rows_with nat_cmp_total nat_cmp-IsAntisymmetric 0 begun_row old new 24 (begun_row (x.job, x)) (pos x.job) b.content.begun x.job x fresh refl refl has.stands.begun put)
      (with_begun_keyed b.content has.keyed (insert b.content.begun x.job x) (each_then nat_cmp_total nat_cmp-IsAntisymmetric (λ number (row : JobBegin). row.job ≡ number) b.content.begun x.job x has.keyed.begun refl))

  pub puts_halt : (x : JobHalt) → IsHaltValue x → get b.content.halts x.job ≡ None → Executes put_halt_text (Int (pos x.job) ∷ halt_columns x) old new (Ok count) → Shows new (with_halt x b)
  puts_halt x value fresh ran =
      let put = puts old new has.schema put_halt_text (Int (pos x.job) ∷ halt_columns x) 14 (loosened has.schema.halts halts_table) refl put_halt_terms 3 (put_halt_is old.now.schema has.schema) (halt_row (x.job, x)) count
      (news_keyed (loosened has.schema.halts halts_table) (Null ∷ halt_columns x) (old.now.trees 25) (pos x.job) (λ i. cast-Null i ∷ Text (halt_text x) ∷ [])) ran in
      halts_shown old new b has (insert b.content.halts x.job x) (alone put) (rows_with nat_cmp_total nat_cmp-IsAntisymmetric 0 halt_row old new 25 (halt_row (x.job, x)) (pos x.job) b.content.halts x.job x fresh refl refl has.stands.halts put)
      (with_halts_keyed b.content has.keyed (insert b.content.halts x.job x) (each_then nat_cmp_total nat_cmp-IsAntisymmetric (λ number (row : JobHalt). row.job ≡ number) b.content.halts x.job x has.keyed.halts refl)
      (each_then nat_cmp_total nat_cmp-IsAntisymmetric (λ number row. IsHaltValue row) b.content.halts x.job x has.keyed.halted value))

-- ---- what is taken out and then put is put in its place

pub note_over : (x : OrderNote) (b : Books) → with_note x (without_note x.order b) ≡ with_note x b
note_over x b = λ i. record b { content = record b.content { notes = insert_removed OrderNote code_total code_same b.content.notes x.order x i } }

pub note_gone : (x : OrderNote) (b : Books) → get (without_note x.order b).content.notes x.order ≡ None
note_gone x b = get_removed OrderNote code_total code_same b.content.notes x.order

pub begun_over : (x : JobBegin) (b : Books) → with_begun x (without_begun x.job b) ≡ with_begun x b
begun_over x b = λ i. record b { content = record b.content { begun = insert_removed JobBegin nat_cmp_total nat_cmp-IsAntisymmetric b.content.begun x.job x i } }

pub begun_gone : (x : JobBegin) (b : Books) → get (without_begun x.job b).content.begun x.job ≡ None
begun_gone x b = get_removed JobBegin nat_cmp_total nat_cmp-IsAntisymmetric b.content.begun x.job
