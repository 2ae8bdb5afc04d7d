-- Rows and the maps that they stand for.
use Rattle.std.proofs.Common.{◌≡◌, ℕ, ◌≤◌, Bool, true, List, [], ◌∷◌, length, map, refl, sym, ap, subst, ◌∙◌, arith}
use Rattle.std.specs.Prelude.{Option, Some, None, T, cond, unwrap_or}
use Rattle.std.specs.Map.{lookup}
use Rattle.std.specs.declared.cmp.Ordering.{Ordering}
use Rattle.std.specs.declared.cmp.Ordering.TheVariants.{Less, Equal, Greater}
use Rattle.std.specs.Option.{option_to_list}
use Rattle.std.specs.Ordering.{is_eq, match_ordering, nat_cmp}
use Rattle.shop_records.specs.declared.records.Column.{Column}
use Rattle.shop_records.specs.declared.records.Column.TheVariants as column
use Rattle.cut_measure.specs.Codes.{code_cmp}
use Rattle.cut_measure.specs.Names.{name_cmp}
use Rattle.shop_records.specs.declared.records.Material.{Material}
use Rattle.shop_records.specs.declared.records.Part.{Part}
use Rattle.shop_records.specs.declared.records.Job.{Job}
use Rattle.shop_records.specs.declared.records.JobHalt.{JobHalt}
use Rattle.shop_records.specs.declared.records.JobBegin.{JobBegin}
use Rattle.shop_records.specs.declared.notes.OrderNote.{OrderNote}
use Rattle.shop_records.specs.declared.records.Demand.{Demand}
use Rattle.shop_records.specs.Content.{Content, message_id_cmp, cells_in, with_material, with_parts, with_job, with_halt, with_begun, with_note, with_demands, with_entry, with_kept, with_import, with_number}
use Rattle.shop_records.specs.WellFormed.{IsInRange}
use Rattle.std.specs.Cmp.{IsTotalOrder}
use Rattle.std.specs.BTreeMap.{insert_entry}
use Rattle.std.specs.FinMap.{FinMap, empty, insert, from_sorted, find, put, is_sorted, get, get-from_sorted, values, entries-from_sorted, entries-insert, same_entries_map, len, len-entries, empty_of_len}
use Rattle.std.specs.FinMap.Entries.{by_order, is_sorted-put}
use Rattle.shop_records.specs.declared.imports.ImportRow.{ImportRow}
use Rattle.shop_records.specs.declared.journal.Entry.{Entry}
use Rattle.shop_records.specs.declared.texts.MessageId.{MessageId}
use Rattle.shop_records.specs.declared.texts.Kept.{Kept}
use Rattle.shop_records.specs.declared.texts.KeptMessage.{KeptMessage}
use Rattle.shop_book.specs.Memory.{put_kept, message_ids_total}
use Rattle.shop_rows.specs.Keys.{material_key, part_key, job_key, halt_key, begin_key, note_key, demand_key, entry_key, import_key}
use Rattle.shop_rows.specs.Rows.{entries_of, rise, row_at, put_each, map_of, with_rows, ArePut}
use Rattle.std.specs.Bool.{Decides}
use Rattle.std.specs.Cmp.Lexicographic.{pointwise}
use Rattle.std.proofs.lemmas.Bool.Decides.{Decides-like}
use Rattle.std.proofs.lemmas.Slice.Eq.{slice_eq-Decides}
use Rattle.std.proofs.lemmas.List.{length-map}
use Rattle.shop_rows.proofs.Mapped.{seconds}
use Rattle.shop_rows.proofs.Places.{tested, met}

module _ {X K : Type 0} (key_of : X → K) (cmp : K → K → Ordering) where
  -- a row is found in the map that the rows stand for
  pub get-rows : (rows : List X) (key : K) → rise key_of cmp rows ≡ true → row_at key_of cmp key rows ≡ get (from_sorted {R = cmp} (entries_of key_of cmp rows)) key
  get-rows rows key up = sym (get-from_sorted cmp (entries_of key_of cmp rows) key (tested _ up))

  -- the rows are the map's values
  pub values-rows : (rows : List X) → rise key_of cmp rows ≡ true → values (from_sorted {R = cmp} (entries_of key_of cmp rows)) ≡ rows
  values-rows rows up = ap (map (λ (e : K × X). e.1)) (entries-from_sorted cmp (entries_of key_of cmp rows) (tested _ up)) ∙ seconds key_of cmp rows

  -- there are as many
  pub len-rows : (rows : List X) → rise key_of cmp rows ≡ true → len (from_sorted {R = cmp} (entries_of key_of cmp rows)) ≡ length rows
  len-rows rows up = len-entries _ ∙ ap length (entries-from_sorted cmp (entries_of key_of cmp rows) (tested _ up)) ∙ length-map rows (λ row. (key_of row, row))

  -- a test of rows is one of the maps that they stand for
  pub maps_decide : (xs ys : List X) (r : Bool) → Decides r (xs ≡ ys) → rise key_of cmp xs ≡ true → rise key_of cmp ys ≡ true
      → Decides r (from_sorted {R = cmp} (entries_of key_of cmp xs) ≡ from_sorted {R = cmp} (entries_of key_of cmp ys))
  maps_decide xs ys r same up vp =
      Decides-like r (ap (λ rows. from_sorted {R = cmp} (entries_of key_of cmp rows))) (λ p. sym (values-rows xs up) ∙ ap values p ∙ values-rows ys vp) same

  -- so rows are equal exactly where the maps are
  pub rows_decide : {E : X → X → Bool} → ((a b : X) → Decides (E a b) (a ≡ b)) → (xs ys : List X) (r : Bool) → r ≡ pointwise E xs ys → rise key_of cmp xs ≡ true → rise key_of cmp ys ≡ true
      → Decides r (from_sorted {R = cmp} (entries_of key_of cmp xs) ≡ from_sorted {R = cmp} (entries_of key_of cmp ys))
  rows_decide each xs ys r is = maps_decide xs ys r (slice_eq-Decides each xs ys r is)

-- to put an entry is to insert it
pub put_is_insert : {K X : Type 0} (cmp : K → K → Ordering) → IsTotalOrder cmp → (key : K) (x : X) (old new : List (K × X)) → is_sorted cmp old ≡ true → new ≡ put cmp key x old
    → from_sorted {R = cmp} new ≡ insert (from_sorted old) key x
put_is_insert cmp o key x old new up is =
    let up_new : T (is_sorted cmp new) = subst (λ es. T (is_sorted cmp es)) (sym is) (is_sorted-put cmp o key x old (tested _ up)) in
    same_entries_map _ _
    (entries-from_sorted cmp new up_new ∙ is ∙ ap (put cmp key x) (sym (entries-from_sorted cmp old (tested _ up))) ∙ sym (entries-insert o (from_sorted old) key x))

pub sorted_after : {K X : Type 0} (cmp : K → K → Ordering) → IsTotalOrder cmp → (key : K) (x : X) (old new : List (K × X)) → is_sorted cmp old ≡ true → new ≡ put cmp key x old → is_sorted cmp new ≡ true
sorted_after cmp o key x old new up is = ap (is_sorted cmp) is ∙ met _ (is_sorted-put cmp o key x old (tested _ up))

module _ {X K : Type 0} (key_of : X → K) (cmp : K → K → Ordering) (o : IsTotalOrder cmp) where
  put_in_turn : (rows : List X) (entries : List (K × X)) → is_sorted cmp entries ≡ true → from_sorted {R = cmp} (put_each key_of cmp rows entries) ≡ with_rows key_of cmp rows (from_sorted entries)
  put_in_turn [] entries up = refl
  put_in_turn (row ∷ rows) entries up =
      put_in_turn rows (put cmp (key_of row) row entries) (sorted_after cmp o (key_of row) row entries (put cmp (key_of row) row entries) up refl)
      ∙ ap (with_rows key_of cmp rows) (put_is_insert cmp o (key_of row) row entries (put cmp (key_of row) row entries) up refl)

  -- rows that were put one after another, after room that was made for them, were inserted so
  pub map_after : (rows old grown new : List X) → rise key_of cmp old ≡ true → grown ≡ old → ArePut key_of cmp rows grown new → map_of key_of cmp new ≡ with_rows key_of cmp rows (map_of key_of cmp old)
  map_after rows old grown new up same is =
      ap (from_sorted {R = cmp}) (is ∙ ap (λ (xs : List X). put_each key_of cmp rows (entries_of key_of cmp xs)) same) ∙ put_in_turn rows (entries_of key_of cmp old) up

-- the map of no rows
pub no_rows : {K X : Type 0} (cmp : K → K → Ordering) → from_sorted {X = X} {R = cmp} [] ≡ empty
no_rows cmp = empty_of_len _ (len-entries _ ∙ ap length (entries-from_sorted cmp [] tt))

-- ---- an ordered map's entries

chosen : {A : Type 0} (o : Ordering) (a b c : A) → match_ordering o a b c ≡ by_order o a b c
chosen Less a b c = refl
chosen Equal a b c = refl
chosen Greater a b c = refl

module _ {K X : Type 0} (cmp : K → K → Ordering) where
  pub lookup_is_find : (key : K) (es : List (K × X)) → lookup (λ k. is_eq (cmp key k)) es ≡ find cmp key es
  lookup_is_find key [] = refl
  lookup_is_find key (e ∷ es) = ap (cond (is_eq (cmp key e.0)) (Some e.1)) (lookup_is_find key es)

  pub insert_is_put : (key : K) (x : X) (es : List (K × X)) → insert_entry cmp es key x ≡ put cmp key x es
  insert_is_put key x [] = refl
  insert_is_put key x (e ∷ es) =
      chosen (cmp key e.0) ((key, x) ∷ e ∷ es) ((e.0, x) ∷ es) (e ∷ insert_entry cmp es key x)
      ∙ ap (λ fs. by_order (cmp key e.0) ((key, x) ∷ e ∷ es) ((e.0, x) ∷ es) (e ∷ fs)) (insert_is_put key x es)

-- ---- totals in range

-- no total is over what may be received
pub column_within : (content : Content) → IsInRange content → (code : List ℕ) (column : Column) → cells_in column code (values content.parts) ≤ 1000000000000000
column_within content range code column.Received = range.received code
column_within content range code _ = let r = range.received code in let a = range.adds_up code in omega arith

-- ---- a change

pub material_after : (row : Option Material) (m : FinMap code_cmp Material) → with_rows material_key code_cmp (option_to_list row) m ≡ with_material row m
material_after None m = refl
material_after (Some row) m = refl

pub job_after : (row : Option Job) (m : FinMap nat_cmp Job) → with_rows job_key nat_cmp (option_to_list row) m ≡ with_job row m
job_after None m = refl
job_after (Some row) m = refl

pub halt_after : (row : Option JobHalt) (m : FinMap nat_cmp JobHalt) → with_rows halt_key nat_cmp (option_to_list row) m ≡ with_halt row m
halt_after None m = refl
halt_after (Some row) m = refl

pub begun_after : (row : Option JobBegin) (m : FinMap nat_cmp JobBegin) → with_rows begin_key nat_cmp (option_to_list row) m ≡ with_begun row m
begun_after None m = refl
begun_after (Some row) m = refl

pub note_after : (row : Option OrderNote) (m : FinMap code_cmp OrderNote) → with_rows note_key code_cmp (option_to_list row) m ≡ with_note row m
note_after None m = refl
note_after (Some row) m = refl

pub import_after : (row : Option ImportRow) (m : FinMap code_cmp ImportRow) → with_rows import_key code_cmp (option_to_list row) m ≡ with_import row m
import_after None m = refl
import_after (Some row) m = refl

pub entry_after : (row : Option Entry) (m : FinMap nat_cmp Entry) → with_rows entry_key nat_cmp (option_to_list row) m ≡ with_entry row m
entry_after None m = refl
entry_after (Some row) m = refl

pub parts_after : (rows : List Part) (m : FinMap name_cmp Part) → with_rows part_key name_cmp rows m ≡ with_parts rows m
parts_after [] m = refl
parts_after (row ∷ rows) m = parts_after rows (insert m row.name row)

pub demands_after : (rows : List Demand) (m : FinMap nat_cmp Demand) → with_rows demand_key nat_cmp rows m ≡ with_demands rows m
demands_after [] m = refl
demands_after (row ∷ rows) m = demands_after rows (insert m row.number row)

pub kept_after : (message : Option KeptMessage) (old new : List (MessageId × Kept)) → is_sorted message_id_cmp old ≡ true → new ≡ put_kept message old
    → from_sorted {R = message_id_cmp} new ≡ with_kept message (from_sorted old)
kept_after None old new up is = ap (from_sorted {R = message_id_cmp}) is
kept_after (Some message) old new up is = put_is_insert message_id_cmp message_ids_total message.message_id message.kept old new up is

pub kept_sorted : (message : Option KeptMessage) (old new : List (MessageId × Kept)) → is_sorted message_id_cmp old ≡ true → new ≡ put_kept message old → is_sorted message_id_cmp new ≡ true
kept_sorted None old new up is = ap (is_sorted message_id_cmp) is ∙ up
kept_sorted (Some message) old new up is = sorted_after message_id_cmp message_ids_total message.message_id message.kept old new up is

pub number_after : (number : Option ℕ) (last : ℕ) → unwrap_or number last ≡ with_number number last
number_after None last = refl
number_after (Some number) last = refl
