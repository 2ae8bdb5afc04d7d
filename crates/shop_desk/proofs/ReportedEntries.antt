-- Entries that are reported one after another.
use Rattle.std.proofs.Common.{◌≡◌, ℕ, zero, suc, ◌+◌, ◌<◌, List, [], ◌∷◌, ◌++◌, length, take, drop, get_or, Bool, true, false, Option, Some, None, refl, sym, ap, subst, arith, inl, inr, ◌∙◌, length-append, append-nil}
use Rattle.std.specs.List.{cons_option}
use Rattle.std.specs.Prelude.{◌⊎◌, ◌||◌, nat_le, nat_lt, filter_map, if◌then◌else◌}
use Rattle.std.proofs.lemmas.Bool.{or_parts, leb-true, leb-false, le-ltb, lt-ltb}
use Rattle.std.proofs.lemmas.List.{append_assoc, take_more, drop_more, take-append-drop, drop_all, length-take-le}
use Rattle.std.proofs.lemmas.List.Elements.{filter_map-append}
use Rattle.shop_records.specs.declared.journal.Entry.{Entry}
use Rattle.shop_records.specs.declared.journal.ReportedEntry.{ReportedEntry}
use Rattle.shop_records.specs.Content.{Content}
use Rattle.shop_records.specs.Lists.{reported_entry, reported_entries}
use Rattle.shop_answers.specs.declared.listing.TheConstants.{MAX_LISTED, MAX_LISTED_BYTES}
use Rattle.shop_answers.specs.Listing.{entry_bytes, shown_from, shown_within, are_hidden}
use Rattle.shop_desk.specs.declared.history.Shown.{Shown}
use Rattle.shop_desk.specs.ReportedEntries.{ShowsMore, Hides, ReportsFirst, Reports}

-- All of these entries are reported, and so many may follow; so many bytes were reached, exactly as long as others may follow.
pub record IsSoFar (all : List ReportedEntry) (bytes : ℕ) : Type 0 where
  pub left : ℕ
  pub reached : ℕ
  pub full : length all + left ≡ MAX_LISTED
  pub within : nat_le MAX_LISTED_BYTES bytes ≡ nat_le MAX_LISTED_BYTES reached
  pub exact : bytes < MAX_LISTED_BYTES → bytes ≡ reached
  pub shown : (rest : List ReportedEntry) → shown_within (all ++ rest) ≡ all ++ shown_from reached (take left rest)

-- none yet
pub none_so_far : IsSoFar [] 0
none_so_far = record { left = MAX_LISTED; reached = 0; full = refl; within = refl; exact = λ lt. refl; shown = λ rest. refl }

-- where fewer bytes than the most were reached, the next one is reported
next_shown : (reached k : ℕ) (entry : ReportedEntry) (rest : List ReportedEntry) → nat_le MAX_LISTED_BYTES reached ≡ false
    → shown_from reached (take (suc k) (entry ∷ rest)) ≡ entry ∷ shown_from (reached + entry_bytes entry) (take k rest)
next_shown reached k entry rest few =
    ap (λ (b : Bool). if b then [] else entry ∷ shown_from (reached + entry_bytes entry) (take k rest)) few

module _ (all : List ReportedEntry) (bytes : ℕ) (so_far : IsSoFar all bytes) where
  -- one more
  module _ (entry : ReportedEntry) (next : ℕ) (few : (nat_le MAX_LISTED (length all) || nat_le MAX_LISTED_BYTES bytes) ≡ false) (within : nat_le MAX_LISTED_BYTES next ≡ nat_le MAX_LISTED_BYTES (bytes + entry_bytes entry))
      (exact : next < MAX_LISTED_BYTES → next ≡ bytes + entry_bytes entry) where
    tests : (nat_le MAX_LISTED (length all) ≡ false) × (nat_le MAX_LISTED_BYTES bytes ≡ false)
    tests = or_parts (nat_le MAX_LISTED (length all)) (nat_le MAX_LISTED_BYTES bytes) few

    same : bytes ≡ so_far.reached
    same = so_far.exact (leb-false MAX_LISTED_BYTES bytes tests.1)

    by : (left : ℕ) → length all + left ≡ MAX_LISTED → ((rest : List ReportedEntry) → shown_within (all ++ rest) ≡ all ++ shown_from so_far.reached (take left rest)) → IsSoFar (all ++ entry ∷ []) next
    by zero full shown = absurd (omega (arith, full, leb-false MAX_LISTED (length all) tests.0))
    by (suc k) full shown = record {
      left = k;
      reached = so_far.reached + entry_bytes entry;
      full = omega (arith, full, length-append all (entry ∷ []));
      within = within ∙ ap (λ n. nat_le MAX_LISTED_BYTES (n + entry_bytes entry)) same;
      exact = λ lt. exact lt ∙ ap (λ n. n + entry_bytes entry) same;
      shown = λ rest.
          ap shown_within (append_assoc all (entry ∷ []) rest) ∙ shown (entry ∷ rest)
          ∙ ap (λ es. all ++ es) (next_shown so_far.reached k entry rest (sym so_far.within ∙ tests.1))
          ∙ sym (append_assoc all (entry ∷ []) (shown_from (so_far.reached + entry_bytes entry) (take k rest)));
    }

    pub one_so_far : IsSoFar (all ++ entry ∷ []) next
    one_so_far = by so_far.left so_far.full so_far.shown

  -- nothing follows them
  nothing_left : (left : ℕ) → shown_from so_far.reached (take left []) ≡ []
  nothing_left zero = refl
  nothing_left (suc k) = refl

  pub all_shown : shown_within all ≡ all
  all_shown = ap shown_within (sym (append-nil all)) ∙ so_far.shown [] ∙ ap (λ es. all ++ es) (nothing_left so_far.left) ∙ append-nil all

  -- no more than these is reported at once
  over_by : (count over : Bool) → nat_le MAX_LISTED (length all) ≡ count → nat_le MAX_LISTED_BYTES bytes ≡ over → (count || over) ≡ true
      → (left : ℕ) → length all + left ≡ MAX_LISTED → (entry : ReportedEntry) (rest : List ReportedEntry) → shown_from so_far.reached (take left (entry ∷ rest)) ≡ []
  over_by count over many much e zero full entry rest = refl
  over_by true over many much e (suc k) full entry rest = absurd (omega (arith, full, leb-true MAX_LISTED (length all) many))
  over_by false over many much e (suc k) full entry rest =
      ap (λ (b : Bool). if b then [] else entry ∷ shown_from (so_far.reached + entry_bytes entry) (take k rest)) (sym so_far.within ∙ much ∙ e)

  module _ (over : (nat_le MAX_LISTED (length all) || nat_le MAX_LISTED_BYTES bytes) ≡ true) (entry : ReportedEntry) (rest : List ReportedEntry) where
    pub over_shown : shown_within (all ++ entry ∷ rest) ≡ all
    over_shown =
        so_far.shown (entry ∷ rest)
        ∙ ap (λ es. all ++ es) (over_by (nat_le MAX_LISTED (length all)) (nat_le MAX_LISTED_BYTES bytes) refl refl over so_far.left so_far.full entry rest)
        ∙ append-nil all

    pub over_hidden : true ≡ are_hidden (all ++ entry ∷ rest)
    over_hidden =
        sym (ap (λ (es : List ReportedEntry). nat_lt (length es) (length (all ++ entry ∷ rest))) over_shown
        ∙ lt-ltb (length all) (length (all ++ entry ∷ rest)) (omega (arith, length-append all (entry ∷ rest), one_longer)))
      where
        one_longer : length (entry ∷ rest) ≡ length rest + 1
        one_longer = omega arith

-- one that is reported after others
pub shown_so_far : (old : Shown) (found : Option ReportedEntry) (new : Shown) → IsSoFar old.entries old.bytes → ShowsMore old found new → IsSoFar new.entries new.bytes
shown_so_far old None new so_far same = subst (λ (s : Shown). IsSoFar s.entries s.bytes) (sym same) so_far
shown_so_far old (Some entry) new so_far (few, put, within, exact) =
    subst (λ (es : List ReportedEntry). IsSoFar es new.bytes) (sym put) (one_so_far old.entries old.bytes so_far entry new.bytes few within exact)

-- ---- rows of entries

module _ (content : Content) (rows : List Entry) where
  -- the rows reported one after another, one more
  pub reported_more : (i : ℕ) (row : Entry) (found : Option ReportedEntry) (old new : Shown) → i < length rows → row ≡ get_or rows i row → found ≡ reported_entry content row
      → old.entries ≡ reported_entries content (take i rows) → ShowsMore old found new → new.entries ≡ reported_entries content (take (i + 1) rows)
  reported_more i row found old new lt at is before shows =
      by found is shows ∙ sym (filter_map-append (reported_entry content) (take i rows) (row ∷ []))
      ∙ ap (λ es. reported_entries content es) (sym (take_more rows i row lt ∙ ap (λ r. take i rows ++ r ∷ []) (sym at)))
    where
      by : (o : Option ReportedEntry) → o ≡ reported_entry content row → ShowsMore old o new → new.entries ≡ reported_entries content (take i rows) ++ filter_map (reported_entry content) (row ∷ [])
      by None e same =
          ap (λ (s : Shown). s.entries) same ∙ before ∙ sym (append-nil (reported_entries content (take i rows)))
          ∙ ap (λ (o : Option ReportedEntry). reported_entries content (take i rows) ++ filter_map (λ (x : Option ReportedEntry). x) (o ∷ [])) e
      by (Some entry) e (few, put, within, exact) =
          put ∙ ap (λ es. es ++ entry ∷ []) before
          ∙ ap (λ (o : Option ReportedEntry). reported_entries content (take i rows) ++ filter_map (λ (x : Option ReportedEntry). x) (o ∷ [])) e

  -- the rows, with one of them and what comes after it
  split_at : (i : ℕ) (row : Entry) → i < length rows → row ≡ get_or rows i row → (rest : List Entry) → rows ++ rest ≡ take i rows ++ row ∷ (drop (i + 1) rows ++ rest)
  split_at i row lt at rest =
      ap (λ rs. rs ++ rest)
      (sym (take-append-drop i rows) ∙ ap (λ rs. take i rows ++ rs) (drop_more rows i row lt ∙ ap (λ r. r ∷ drop (i + 1) rows) (sym at)))
      ∙ append_assoc (take i rows) (row ∷ drop (i + 1) rows) rest

  -- one of the rows isn't reported any more
  pub reports_over : (i : ℕ) (row : Entry) (found : Option ReportedEntry) (old new : Shown) → i < length rows → row ≡ get_or rows i row → found ≡ reported_entry content row
      → IsSoFar old.entries old.bytes → old.entries ≡ reported_entries content (take i rows) → Hides old found new → ReportsFirst content rows new.entries true
  reports_over i row found old new lt at is so_far before hides rest last = by found is hides
    where
      by : (o : Option ReportedEntry) → o ≡ reported_entry content row → Hides old o new
          → (new.entries ≡ shown_within (reported_entries content (rows ++ rest))) × (true ≡ are_hidden (reported_entries content (rows ++ rest)))
      by None e none = absurd none
      by (Some entry) e (over, same) =
          let more : List ReportedEntry = reported_entries content (drop (i + 1) rows ++ rest) in
          let all : reported_entries content (rows ++ rest) ≡ old.entries ++ entry ∷ more =
          ap (reported_entries content) (split_at i row lt at rest)
          ∙ filter_map-append (reported_entry content) (take i rows) (row ∷ (drop (i + 1) rows ++ rest))
          ∙ ap (λ es. es ++ reported_entries content (row ∷ (drop (i + 1) rows ++ rest))) (sym before)
          ∙ ap (λ es. old.entries ++ es) (first_reported entry e (drop (i + 1) rows ++ rest)) in (
            ap (λ (s : Shown). s.entries) same ∙ sym (ap shown_within all ∙ over_shown old.entries old.bytes so_far over entry more),
            over_hidden old.entries old.bytes so_far over entry more ∙ sym (ap are_hidden all),
          )
        where
          first_reported : (entry : ReportedEntry) → Some entry ≡ reported_entry content row → (xs : List Entry) → reported_entries content (row ∷ xs) ≡ entry ∷ reported_entries content xs
          first_reported entry e xs = sym (ap (λ (o : Option ReportedEntry). cons_option o (reported_entries content xs)) e)

  -- all rows are reported
  pub reports_all : (reported : List ReportedEntry) (bytes : ℕ) → IsSoFar reported bytes → reported ≡ reported_entries content rows → ReportsFirst content rows reported false
  reports_all reported bytes so_far is rest last = by last
    where
      whole : rest ≡ [] → reported_entries content (rows ++ rest) ≡ reported
      whole none = ap (λ es. reported_entries content (rows ++ es)) none ∙ ap (reported_entries content) (append-nil rows) ∙ sym is

      by : (false ≡ true) ⊎ (rest ≡ []) → (reported ≡ shown_within (reported_entries content (rows ++ rest))) × (false ≡ are_hidden (reported_entries content (rows ++ rest)))
      by (inl wrong) = absurd (cc wrong)
      by (inr none) = (
        sym (ap shown_within (whole none) ∙ all_shown reported bytes so_far),
        sym (ap are_hidden (whole none) ∙ ap (λ (es : List ReportedEntry). nat_lt (length es) (length reported)) (all_shown reported bytes so_far) ∙ le-ltb (length reported) (length reported) (omega arith)),
      )

-- ---- the first of many

-- fewer than are asked for are all that there are
none_behind : (all : List Entry) (most : ℕ) → length (take most all) < most → drop most all ≡ []
none_behind all most few = by (nat_le most (length all)) refl
  where
    by : (b : Bool) → nat_le most (length all) ≡ b → drop most all ≡ []
    by true e = absurd (omega (arith, few, length-take-le most all (leb-true most (length all) e)))
    by false e = drop_all most all (omega (arith, leb-false most (length all) e))

pub reports_whole : (content : Content) (all rows : List Entry) (most : ℕ) (reported : List ReportedEntry) (more : Bool) → rows ≡ take most all → ReportsFirst content rows reported more
    → ((more ≡ true) ⊎ (length rows < most)) → Reports content all reported more
reports_whole content all rows most reported more is reports enough =
    let whole : rows ++ drop most all ≡ all = ap (λ rs. rs ++ drop most all) is ∙ take-append-drop most all in
    let first = reports (drop most all) (by enough) in (
      first.0 ∙ ap (λ es. shown_within (reported_entries content es)) whole,
      first.1 ∙ ap (λ es. are_hidden (reported_entries content es)) whole,
    )
  where
    by : ((more ≡ true) ⊎ (length rows < most)) → (more ≡ true) ⊎ (drop most all ≡ [])
    by (inl follow) = inl follow
    by (inr few) = inr (none_behind all most (subst (λ (rs : List Entry). length rs < most) is few))
