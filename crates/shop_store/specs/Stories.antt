-- How the entries about a subject are looked for, some at a time.
use Rattle.std.specs.Prelude.{◌≡◌, ◌++◌, ℕ, List, Option, Some, None, take}
use Rattle.shop_records.specs.Content.{Content}
use Rattle.shop_records.specs.Lists.{entries_about}
use Rattle.shop_records.specs.declared.journal.Entry.{Entry}
use Rattle.shop_records.specs.declared.journal.Subject.{Subject}

-- From the entries that were found, and those behind a number: these are all, or the next ones are behind another number.
abbrev pub IsStep : Content → Subject → (most : ℕ) → (old : List Entry) → (at : ℕ) → Option ℕ → (new : List Entry) → Type 0
IsStep m about most old at None new = take most (old ++ entries_about m about at) ≡ new
IsStep m about most old at (Some next) new = take most (old ++ entries_about m about at) ≡ take most (new ++ entries_about m about next)
