-- What is remembered of the entries of tables, and how it is found, some entries at a time.
use Rattle.std.specs.Prelude.{◌≡◌, ◌≤◌, ℕ, Option, Some, None}
use Rattle.std.specs.Option.{option_or}
use Rattle.shop_records.specs.Content.{Content, entry_count, last_time}
use Rattle.shop_records.specs.Lists.{entries_behind}
use Rattle.shop_records.specs.Elements.{IsIn}
use Rattle.shop_records.specs.declared.journal.Entry.{Entry}
use Rattle.shop_book.specs.Ends.{end_time, kept_time}
use Rattle.shop_book.specs.FiledEntries.{AreEntriesFiled, IsEntryFiled}
use Rattle.shop_book.specs.declared.number_index.NumberIndex.{NumberIndex}
use Rattle.shop_book.specs.declared.end_rows.JobEnds.{JobEnds}
use Rattle.shop_store.specs.Storing.{IsRemembered}
use Rattle.shop_store.specs.declared.remembered.Remembered.{Remembered}

-- these are the number and the time of the content's last entry
abbrev pub IsLastOf : Content → Option (ℕ × ℕ) → Type 0
IsLastOf m None = ⊥
IsLastOf m (Some last) = (last.0 ≡ entry_count m) × (last.1 ≡ last_time m)

-- this is what is remembered of the content's entries
abbrev pub IsFoundOf : Content → Option Remembered → Type 0
IsFoundOf m None = ⊥
IsFoundOf m (Some it) = IsRemembered m it

-- when a job ended, by what is kept and then by the entries behind a number
abbrev pub time_from : Content → JobEnds → (after job : ℕ) → Option ℕ
time_from m ends after job = option_or (kept_time job ends) (end_time job (entries_behind m after))

-- the entries up to a number are filed
abbrev pub FiledTo : Content → (at : ℕ) → NumberIndex → Type 0
FiledTo m at index = (entry : Entry) → IsIn entry (entries_behind m 0) → entry.number ≤ at → IsEntryFiled index entry

-- Where those up to a number were filed, all are, or those up to the next number.
abbrev pub IsFiledOn : Content → (old : NumberIndex) → (at : ℕ) → Option ℕ → (new : NumberIndex) → Type 0
IsFiledOn m old at None new = FiledTo m at old → AreEntriesFiled new (entries_behind m 0)
IsFiledOn m old at (Some next) new = FiledTo m at old → FiledTo m next new

-- From the ends that were found, and those behind a number: these are all, or the next ones are behind another number.
abbrev pub IsNext : Content → (old : JobEnds) → (at : ℕ) → Option ℕ → (new : JobEnds) → Type 0
IsNext m old at None new = (job : ℕ) → time_from m old at job ≡ kept_time job new
IsNext m old at (Some next) new = (job : ℕ) → time_from m old at job ≡ time_from m new next job
