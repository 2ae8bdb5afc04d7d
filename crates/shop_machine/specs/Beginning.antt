-- Beginning to cut a waiting job.
use Rattle.std.specs.Prelude.{ℕ, [], ◌∷◌, not, Option, Some, None}
use Rattle.shop_records.specs.declared.records.Job.{Job}
use Rattle.shop_records.specs.declared.records.JobBegin.{JobBegin}
use Rattle.shop_records.specs.declared.changes.Change.{Change}
use Rattle.shop_records.specs.declared.refusals.Refusal.{Refusal}
use Rattle.shop_records.specs.declared.refusals.Refusal.TheVariants.{NoJob, JobOver}
use Rattle.shop_records.specs.declared.messages.Reply.TheVariants as reply
use Rattle.shop_records.specs.Columns.{is_waiting}
use Rattle.shop_records.specs.Content.{of_found}
use Rattle.shop_machine.specs.Decisions.{first_of, no_change}

-- of a job's row
abbrev pub begin_refusal : Option Job → Option Refusal
begin_refusal None = Some NoJob
begin_refusal (Some j) = first_of ((not (is_waiting j.state), JobOver) ∷ [])

-- The job is begun, and the reply gives the terminal that had begun it. Which one has begun it now is known once the message is
-- kept.
abbrev pub begin_change : (number : ℕ) → (before : Option JobBegin) → Change
begin_change number before =
    record (no_change (reply.Begin (of_found (λ (row : JobBegin). row.terminal) before) number)) {
      begun = Some (record { job = number; terminal = 0 });
    }
