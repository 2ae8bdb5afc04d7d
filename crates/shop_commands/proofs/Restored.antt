-- A restore that a fault stopped.
use Rattle.std.proofs.Common.{◌≡◌, List, ℕ, Result, Ok, Err, inl, inr}
use Rattle.std.specs.Prelude.{IfErr, OnOk}
use Rattle.shop_advice.specs.declared.causes.BackupCause.TheVariants.{NoBackup}
use Rattle.shop_advice.specs.declared.causes.StoreCause.TheVariants.{Before}
use Rattle.shop_backup.specs.declared.restoring.RestoreFault.{RestoreFault}
use Rattle.shop_backup.specs.declared.restoring.RestoreFault.TheVariants as restore
use Rattle.shop_commands.specs.declared.faults.Fault.{Fault}
use Rattle.shop_commands.specs.declared.faults.Fault.TheVariants.{Write}
use Rattle.shop_commands.specs.Faults.{restore_fault}
use Rattle.shop_commands.specs.Restoring.{IsRestoreDone, IsRestoredText, IsRestoreStopped, IsUnrestored}
use Rattle.shop_commands.specs.Sinks.{SinkChange, Adds, AddsPrefix, SinkFailed}

-- each fault of a restore is one of these
pub unrestored : (fault : RestoreFault) (f : Fault) → f ≡ restore_fault fault → IsUnrestored f
unrestored restore.NoMemory f is = inl is
unrestored (restore.Store cause) f is = inr (inl (cause, is))
unrestored restore.NoBackup f is = inr (inr (NoBackup, is))
unrestored restore.Before f is = inr (inl (Before, is))

module _ {X : Type 0} (store from text : List ℕ) (out : SinkChange) (is : IsRestoredText store from text) where
  -- the lines of one that was done are written
  pub printed : (result : Result X Fault) → OnOk result (Adds out text) → OnOk result (IsRestoreDone store from out)
  printed (Ok x) adds = (text, is, adds)
  printed (Err f) adds = tt

  -- or they can't be
  pub unprinted : AddsPrefix out text → (result : Result X Fault) → IfErr result (λ f. (f ≡ Write) × SinkFailed out) → IfErr result (λ f. IsRestoreStopped store from f out)
  unprinted prefix (Ok x) failed = tt
  unprinted prefix (Err f) failed = inr (failed.0, (text, is, prefix), failed.1)
