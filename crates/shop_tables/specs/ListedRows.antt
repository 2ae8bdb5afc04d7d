-- Rows that show a value whole.
use Rattle.std.specs.Prelude.{◌≡◌, ℕ, pos, [], ◌∷◌, ◌++◌, Option, Some, None}
use Rattle.sqlite_value.specs.declared.value.Value.TheVariants.{Int}
use Rattle.sqlite_value.specs.Order.{Row}
use Rattle.shop_records.specs.declared.records.Demand.{Demand}
use Rattle.shop_records.specs.declared.records.Job.{Job}
use Rattle.shop_records.specs.declared.records.JobBegin.{JobBegin}
use Rattle.shop_records.specs.declared.notes.OrderNote.{OrderNote}
use Rattle.shop_records.specs.declared.records.Material.{Material}
use Rattle.shop_records.specs.declared.records.Part.{Part}
use Rattle.shop_records.specs.declared.journal.Entry.{Entry}
use Rattle.shop_records.specs.Content.{Content}
use Rattle.shop_records.specs.Lists.{IsLastNumber}
use Rattle.shop_tables.specs.Listing.{code_row}
use Rattle.shop_statements.specs.Rows.{begun_columns, demand_columns, entry_columns, job_columns, material_columns, note_columns, part_row}

abbrev pub number_row : ℕ → Row
number_row number = Int (pos number) ∷ []

-- a material's row, its code after it
abbrev pub listed_material : Material → Row
listed_material material = material_columns material ++ code_row material.code

-- a part's row, its name in front of it
abbrev pub listed_part : Part → Row
listed_part part = part_row (part.name, part)

-- a demand's row, its number after it
abbrev pub listed_demand : Demand → Row
listed_demand demand = demand_columns demand ++ number_row demand.number

-- a job's row, its number after it
abbrev pub listed_job : Job → Row
listed_job job = job_columns job ++ number_row job.act

-- the row of what is said of an order, its code after it
abbrev pub listed_note : OrderNote → Row
listed_note note = note_columns note ++ code_row note.order

-- the row of a terminal that has begun a job, its number after it
abbrev pub listed_begun : JobBegin → Row
listed_begun begun = begun_columns begun ++ number_row begun.job

-- an entry's row, its number after it
abbrev pub listed_entry : Entry → Row
listed_entry entry = entry_columns entry ++ number_row entry.number

-- the row of a terminal's greatest number; there is none where no message is kept
abbrev pub IsLastRow : Content → ℕ → Option Row → Type 0
IsLastRow content terminal None = IsLastNumber content terminal 0
IsLastRow content terminal (Some row) = (last : ℕ) × (row ≡ number_row last) × IsLastNumber content terminal last
