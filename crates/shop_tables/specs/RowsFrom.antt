-- Demands, jobs, begun jobs and entries from a number on, and what a job's row has without its plan.
use Rattle.std.specs.Prelude.{◌≡◌, ℕ, List, [], filter, IsSome, nat_le}
use Rattle.std.specs.FinMap.{values}
use Rattle.sqlite_value.specs.Order.{Row}
use Rattle.shop_records.specs.Content.{Content, entry_at}
use Rattle.shop_records.specs.declared.records.Demand.{Demand}
use Rattle.shop_records.specs.declared.records.Job.{Job}
use Rattle.shop_records.specs.declared.records.JobBegin.{JobBegin}
use Rattle.shop_records.specs.declared.journal.Entry.{Entry}
use Rattle.shop_tables.specs.declared.valid_rows.StoredJob.{StoredJob}

-- the demands from a number on, rising
abbrev pub demands_from : Content → ℕ → List Demand
demands_from m from = filter (λ (demand : Demand). nat_le from demand.number) (values m.demands)

-- the jobs from a number on, rising
abbrev pub jobs_from : Content → ℕ → List Job
jobs_from m from = filter (λ (job : Job). nat_le from job.act) (values m.jobs)

-- the begun jobs from a number on, rising
abbrev pub begun_from : Content → ℕ → List JobBegin
begun_from m from = filter (λ (row : JobBegin). nat_le from row.job) (values m.begun)

-- the entries from a number on, rising
abbrev pub entries_from : Content → ℕ → List Entry
entries_from m from = filter (λ (entry : Entry). nat_le from entry.number) (values m.entries)

-- a job without its plan
abbrev pub stored_job : Job → StoredJob
stored_job job = record { number = job.act; part = job.part; state = job.state }

-- rows of entries whose numbers don't do: there is none exactly where each entry's number does
abbrev pub HasNoneBut : (ℕ → Type 0) → Content → List Row → Type 0
HasNoneBut Does m rows =
    (((n : ℕ) → IsSome (entry_at m n) → Does n) → rows ≡ []) × (rows ≡ [] → (n : ℕ) → IsSome (entry_at m n) → Does n)
