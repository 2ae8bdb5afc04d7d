-- What was asked was done, or stopped by a fault; and the status and what was reported follow from that.
use Rattle.std.proofs.Common.{◌≡◌, ℕ, Result, Ok, Err, inl, inr}
use Rattle.std.specs.Prelude.{◌⊎◌, IfErr, OnOk}
use Rattle.shop_commands.specs.declared.faults.Fault.{Fault}
use Rattle.shop_commands.specs.Performs.{Concludes, ReportsFault}
use Rattle.shop_commands.specs.Sinks.{SinkChange, AddsNone}

pub concluded : (outcome : Result (Unit {0}) Fault) (Done : Type 0) (Stopped : Fault → Type 0) (err : SinkChange) (status : ℕ) → OnOk outcome Done → IfErr outcome Stopped
    → Concludes outcome err status → ((status ≡ 0) × Done × AddsNone err) ⊎ ((status ≡ 1) × ((fault : Fault) × Stopped fault × ReportsFault fault err))
concluded (Ok x) Done Stopped err status done stopped is = inl (is.0, done, is.1)
concluded (Err fault) Done Stopped err status done stopped is = inr (is.0, (fault, stopped, is.1))
