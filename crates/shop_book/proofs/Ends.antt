-- What entries report of the ends of jobs, and what is kept of them.
use Rattle.std.proofs.Common.{◌≡◌, ◌<◌, ◌+◌, ◌∙◌, ℕ, get_or, length, Bool, true, false, List, [], ◌∷◌, ◌++◌, eqb, take, drop, Option, Some, None, refl, sym, ap, inl, inr}
use Rattle.std.proofs.lemmas.Bool.{eqb-true, eq-eqb, ne_eqb}
use Rattle.std.proofs.lemmas.Grind.{take_at_read}
use Rattle.std.proofs.lemmas.List.{take-append-drop}
use Rattle.std.proofs.lemmas.List.Elements.{filter-append}
use Rattle.std.specs.Prelude.{cond, filter, is_some, option_map, unwrap_or, ◌&&◌}
use Rattle.std.specs.Cmp.{nat_cmp_total}
use Rattle.std.specs.FinMap.{nat_cmp-IsAntisymmetric}
use Rattle.std.specs.FinMap.Entries.{find, find-put}
use Rattle.std.specs.List.{slice_get}
use Rattle.std.specs.Option.{option_or}
use Rattle.std.specs.Ordering.{is_eq, nat_cmp}
use Rattle.shop_records.proofs.Basics.{key_cases}
use Rattle.shop_records.specs.Content.{of_found}
use Rattle.shop_records.specs.Lists.{ends_job}
use Rattle.shop_records.specs.declared.journal.Entry.{Entry}
use Rattle.shop_rows.specs.Rows.{entries_of, row_at, IsPut}
use Rattle.shop_book.specs.EndRows.{end_key}
use Rattle.shop_book.specs.Ends.{end_time, first_end, is_end_of, row_time}
use Rattle.shop_book.specs.declared.end_rows.JobEnd.{JobEnd}

-- ---- of two the first that is there

pub or_none : {X : Type 0} (x : Option X) → option_or x None ≡ x
or_none None = refl
or_none (Some x) = refl

pub or_in_turn : {X : Type 0} (x y z : Option X) → option_or (option_or x y) z ≡ option_or x (option_or y z)
or_in_turn None y z = refl
or_in_turn (Some x) y z = refl

some_or : {X : Type 0} (x y : Option X) → is_some x ≡ true → option_or x y ≡ x
some_or None y there = absurd (let e = there in cc)
some_or (Some x) y there = refl

map_or : {X Y : Type 0} (f : X → Y) (x y : Option X) → option_map f (option_or x y) ≡ option_or (option_map f x) (option_map f y)
map_or f None y = refl
map_or f (Some x) y = refl

some_mapped : {X Y : Type 0} (f : X → Y) (x : Option X) → is_some (option_map f x) ≡ is_some x
some_mapped f None = refl
some_mapped f (Some x) = refl

no_and : (b : Bool) → (b && false) ≡ false
no_and true = refl
no_and false = refl

pub none_of : {X : Type 0} (x : Option X) → is_some x ≡ false → x ≡ None
none_of None none = refl
none_of (Some x) some = absurd (let e = some in cc)

-- ---- of lists of entries

first_of : {X : Type 0} (xs ys : List X) → slice_get (xs ++ ys) 0 ≡ option_or (slice_get xs 0) (slice_get ys 0)
first_of [] ys = refl
first_of (x ∷ xs) ys = refl

module _ (job : ℕ) where
  pub first_in_turn : (xs ys : List Entry) → first_end job (xs ++ ys) ≡ option_or (first_end job xs) (first_end job ys)
  first_in_turn xs ys = ap (λ (es : List Entry). slice_get es 0) (filter-append (is_end_of job) xs ys) ∙ first_of (filter (is_end_of job) xs) (filter (is_end_of job) ys)

  pub ends_in_turn : (xs ys : List Entry) → end_time job (xs ++ ys) ≡ option_or (end_time job xs) (end_time job ys)
  ends_in_turn xs ys = ap (option_map (λ (entry : Entry). entry.at)) (first_in_turn xs ys) ∙ map_or (λ (entry : Entry). entry.at) (first_end job xs) (first_end job ys)

  one_first : (entry : Entry) → first_end job (entry ∷ []) ≡ cond (is_end_of job entry) (Some entry) None
  one_first entry = by (is_end_of job entry)
    where
      by : (b : Bool) → slice_get (cond b (entry ∷ []) []) 0 ≡ cond b (Some entry) None
      by true = refl
      by false = refl

  -- an entry that isn't the job's end reports nothing of it
  unreported : (entry : Entry) → is_end_of job entry ≡ false → end_time job (entry ∷ []) ≡ None
  unreported entry e = ap (option_map (λ (entry : Entry). entry.at)) (one_first entry ∙ ap (λ b. cond b (Some entry) None) e)

  reported : (entry : Entry) → is_end_of job entry ≡ true → end_time job (entry ∷ []) ≡ Some entry.at
  reported entry e = ap (option_map (λ (entry : Entry). entry.at)) (one_first entry ∙ ap (λ b. cond b (Some entry) None) e)

  module _ (entries : List Entry) (i : ℕ) (entry : Entry) (next : take (i + 1) entries ≡ take i entries ++ entry ∷ []) (none : first_end job (take i entries) ≡ None) where
    so_far : first_end job (take (i + 1) entries) ≡ cond (is_end_of job entry) (Some entry) None
    so_far = ap (first_end job) next ∙ first_in_turn (take i entries) (entry ∷ []) ∙ ap (λ found. option_or found (first_end job (entry ∷ []))) none ∙ one_first entry

    -- the next one is none
    pub not_yet : is_end_of job entry ≡ false → first_end job (take (i + 1) entries) ≡ None
    not_yet e = so_far ∙ ap (λ b. cond b (Some entry) None) e

    -- the next one is the first
    pub found_first : is_end_of job entry ≡ true → first_end job entries ≡ Some entry
    found_first e =
        ap (first_end job) (sym (take-append-drop (i + 1) entries)) ∙ first_in_turn (take (i + 1) entries) (drop (i + 1) entries)
        ∙ ap (λ found. option_or found (first_end job (drop (i + 1) entries))) (so_far ∙ ap (λ b. cond b (Some entry) None) e)

-- ---- of rows

module _ (entry : Entry) (job : ℕ) where
  -- an entry that is no end changes nothing
  pub stays_unended : (rows : List JobEnd) → ends_job entry.word ≡ false → row_time job rows ≡ option_or (row_time job rows) (end_time job (entry ∷ []))
  stays_unended rows e = sym (ap (option_or (row_time job rows)) (unreported job entry (ap (λ b. b && eqb entry.job job) e)) ∙ or_none (row_time job rows))

  of_another : (rows : List JobEnd) → eqb entry.job job ≡ false → row_time job rows ≡ option_or (row_time job rows) (end_time job (entry ∷ []))
  of_another rows e = sym (ap (option_or (row_time job rows)) (unreported job entry (ap (λ b. ends_job entry.word && b) e ∙ no_and (ends_job entry.word))) ∙ or_none (row_time job rows))

  -- nor does one of a job that has ended
  pub stays_ended : (rows : List JobEnd) → is_some (row_at end_key nat_cmp entry.job rows) ≡ true → row_time job rows ≡ option_or (row_time job rows) (end_time job (entry ∷ []))
  stays_ended rows there = by (eqb entry.job job) refl
    where
      by : (b : Bool) → eqb entry.job job ≡ b → row_time job rows ≡ option_or (row_time job rows) (end_time job (entry ∷ []))
      by true e =
          let same = eqb-true entry.job job e in
          sym (some_or (row_time job rows) (end_time job (entry ∷ [])) (some_mapped (λ (row : JobEnd). row.at) (row_at end_key nat_cmp job rows) ∙ sym (ap (λ n. is_some (row_at end_key nat_cmp n rows)) same) ∙ there))
      by false e = of_another rows e

  -- the row of an end that is the first
  pub newly_ended : (old new : List JobEnd) → IsPut end_key nat_cmp (record { job = entry.job; at = entry.at }) old new → ends_job entry.word ≡ true → row_at end_key nat_cmp entry.job old ≡ None
      → row_time job new ≡ option_or (row_time job old) (end_time job (entry ∷ []))
  newly_ended old new put ends none =
      let row : JobEnd = record { job = entry.job; at = entry.at } in
      let at = λ (row : JobEnd). row.at in
      let found : row_at end_key nat_cmp job new ≡ cond (is_eq (nat_cmp job entry.job)) (Some row) (row_at end_key nat_cmp job old) =
      ap (find nat_cmp job) put ∙ find-put nat_cmp nat_cmp_total job entry.job row (entries_of end_key nat_cmp old) in
      elim (key_cases nat_cmp_total nat_cmp-IsAntisymmetric job entry.job) [
        | inl same ↦
            ap (option_map at) (found ∙ ap (λ b. cond b (Some row) (row_at end_key nat_cmp job old)) same.1)
            ∙ sym ((λ i. option_or (option_map at ((ap (λ n. row_at end_key nat_cmp n old) same.0 ∙ none) i)) (reported job entry ((λ k. ends k && eq-eqb entry.job job (sym same.0) k)) i)))
        | inr apart ↦
            ap (option_map at) (found ∙ ap (λ b. cond b (Some row) (row_at end_key nat_cmp job old)) apart.1) ∙ of_another old (ne_eqb entry.job job (λ e. apart.0 (sym e)))
      ]

-- the time of what was found, or 0
pub found_or : {X : Type 0} (f : X → ℕ) (x : Option X) → of_found f x ≡ unwrap_or (option_map f x) 0
found_or f None = refl
found_or f (Some x) = refl

-- the entry at a place is the next one
pub next_entry : (entries : List Entry) (i : ℕ) (entry : Entry) → i < length entries → entry ≡ get_or entries i entry → take (i + 1) entries ≡ take i entries ++ entry ∷ []
next_entry entries i entry less is = (take_at_read entries i entry less).1 ∙ ap (λ e. take i entries ++ e ∷ []) (sym is)
