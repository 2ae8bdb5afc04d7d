-- When jobs were done or broken, as entries report it and as it is kept.
use Rattle.std.specs.Prelude.{◌≡◌, ◌&&◌, ◌==◌, ◌<◌, ℕ, Bool, List, Option, filter, option_map, vec_capacity, vec_len}
use Rattle.std.specs.List.{slice_get}
use Rattle.std.specs.Option.{option_or}
use Rattle.std.specs.Ordering.{nat_cmp}
use Rattle.shop_records.specs.declared.journal.Entry.{Entry}
use Rattle.shop_records.specs.Lists.{ends_job}
use Rattle.shop_rows.specs.Rows.{row_at}
use Rattle.shop_book.specs.EndRows.{end_key}
use Rattle.shop_book.specs.declared.end_rows.JobEnd.{JobEnd}
use Rattle.shop_book.specs.declared.end_rows.JobEnds.{JobEnds}

-- whether an entry's message ended the job
abbrev pub is_end_of : (job : ℕ) → Entry → Bool
is_end_of job entry = ends_job entry.word && (entry.job == job)

-- the first of entries whose message ended the job
abbrev pub first_end : (job : ℕ) → List Entry → Option Entry
first_end job entries = slice_get (filter (is_end_of job) entries) 0

-- its time
abbrev pub end_time : (job : ℕ) → List Entry → Option ℕ
end_time job entries = option_map (λ (entry : Entry). entry.at) (first_end job entries)

-- the time of the job's end, in rows and as it is kept
abbrev pub row_time : (job : ℕ) → List JobEnd → Option ℕ
row_time job rows = option_map (λ (row : JobEnd). row.at) (row_at end_key nat_cmp job rows)

abbrev pub kept_time : (job : ℕ) → JobEnds → Option ℕ
kept_time job ends = row_time job ends.rows.items

-- of each job it is kept what these entries report
abbrev pub AreEnds : List Entry → JobEnds → Type 0
AreEnds entries ends = (job : ℕ) → kept_time job ends ≡ end_time job entries

-- The new ones are the old ones and, of a job that had none, what these entries report.
abbrev pub AddEnds : List Entry → (old new : JobEnds) → Type 0
AddEnds entries old new = (job : ℕ) → kept_time job new ≡ option_or (kept_time job old) (end_time job entries)

-- there is room for one more
abbrev pub HasSpareEnd : JobEnds → Type 0
HasSpareEnd ends = vec_len ends.rows < vec_capacity ends.rows
