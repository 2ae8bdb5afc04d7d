-- What is reported about entries, one after another.
use Rattle.std.specs.Prelude.{◌≡◌, ◌⊎◌, ◌+◌, ◌<◌, ◌++◌, ◌∷◌, ◌||◌, ℕ, List, [], length, Bool, true, false, nat_le, Option, Some, None}
use Rattle.shop_records.specs.declared.journal.Entry.{Entry}
use Rattle.shop_records.specs.declared.journal.ReportedEntry.{ReportedEntry}
use Rattle.shop_records.specs.declared.journal.Subject.{Subject}
use Rattle.shop_records.specs.Content.{Content}
use Rattle.shop_records.specs.Lists.{entries_behind, entries_about, reported_entries}
use Rattle.shop_answers.specs.declared.listing.TheConstants.{MAX_LISTED, MAX_LISTED_BYTES}
use Rattle.shop_answers.specs.Listing.{entry_bytes, shown_within, are_hidden}
use Rattle.shop_desk.specs.declared.history.Shown.{Shown}

-- the entries with greater numbers, all of them, or those about a subject
abbrev pub entries_for : Content → Option Subject → (after : ℕ) → List Entry
entries_for content None after = entries_behind content after
entries_for content (Some about) after = entries_about content about after

-- no entry more is reported
abbrev pub is_over : Shown → Bool
is_over shown = nat_le MAX_LISTED (length shown.entries) || nat_le MAX_LISTED_BYTES shown.bytes

-- an entry is reported after others, where there is one
abbrev pub ShowsMore : Shown → Option ReportedEntry → Shown → Type 0
ShowsMore old None new = new ≡ old
ShowsMore old (Some entry) new =
    (is_over old ≡ false) × (new.entries ≡ old.entries ++ entry ∷ [])
    × (nat_le MAX_LISTED_BYTES new.bytes ≡ nat_le MAX_LISTED_BYTES (old.bytes + entry_bytes entry))
    × (new.bytes < MAX_LISTED_BYTES → new.bytes ≡ old.bytes + entry_bytes entry)

-- an entry isn't reported after others, which are all that is reported
abbrev pub Hides : Shown → Option ReportedEntry → Shown → Type 0
Hides old None new = ⊥
Hides old (Some entry) new = (is_over old ≡ true) × (new ≡ old)

abbrev pub ShowsOrHides : Shown → Option ReportedEntry → Bool → Shown → Type 0
ShowsOrHides old found true new = Hides old found new
ShowsOrHides old found false new = ShowsMore old found new

-- What is reported about entries that begin with these, and whether others follow the last one reported: as soon as others do, whatever
-- comes behind these entries.
abbrev pub ReportsFirst : Content → List Entry → List ReportedEntry → Bool → Type 0
ReportsFirst content rows reported more =
    (rest : List Entry) → ((more ≡ true) ⊎ (rest ≡ []))
    → (reported ≡ shown_within (reported_entries content (rows ++ rest))) × (more ≡ are_hidden (reported_entries content (rows ++ rest)))

-- what is reported about a list of entries, and whether others follow the last one reported
abbrev pub Reports : Content → List Entry → List ReportedEntry → Bool → Type 0
Reports content rows reported more = (reported ≡ shown_within (reported_entries content rows)) × (more ≡ are_hidden (reported_entries content rows))
