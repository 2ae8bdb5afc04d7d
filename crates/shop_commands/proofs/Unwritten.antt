-- What was made of a file's bytes, written or not to its end.
use Rattle.std.proofs.Common.{◌≡◌, ℕ, List, Result, Ok, Err, inr, subst, sym}
use Rattle.std.specs.Prelude.{IfErr, OnOk}
use Rattle.std.proofs.lemmas.Result.{on_ok_weaker}
use Rattle.shop_files.specs.declared.limits.TheConstants.{MAX_TEXT_LEN}
use Rattle.shop_commands.specs.declared.faults.Fault.{Fault}
use Rattle.shop_commands.specs.declared.faults.Fault.TheVariants.{Write}
use Rattle.shop_commands.specs.Performs.{IsMadeStopped, IsPlanDone, IsPlanStopped}
use Rattle.shop_commands.specs.Sinks.{SinkChange, Adds, AddsPrefix, SinkFailed}

module _ {X : Type 0} (holds : List ℕ → ℕ → List ℕ → Type 0) (file : List ℕ) (made : List ℕ → List ℕ → Type 0) (bytes plan : List ℕ) (out : SinkChange) (has : holds file MAX_TEXT_LEN bytes) (is : made bytes plan) where
  pub written : (result : Result X Fault) → OnOk result (Adds out plan) → OnOk result (IsPlanDone holds file made out)
  written result adds = on_ok_weaker result (λ a. (bytes, plan, has, is, a)) adds

  module _ (stops : List ℕ → Fault → Type 0) (prefix : AddsPrefix out plan) where
    pub unwritten : (result : Result X Fault) → IfErr result (λ fault. (fault ≡ Write) × SinkFailed out) → IfErr result (λ fault. IsPlanStopped holds file made stops fault out)
    unwritten (Ok x) failed = tt
    unwritten (Err fault) failed = subst (λ f. IsPlanStopped holds file made stops f out) (sym failed.0) (bytes, plan, has, is, prefix, failed.1)

    pub half_written : (result : Result X Fault) → IfErr result (λ fault. (fault ≡ Write) × SinkFailed out) → IfErr result (λ fault. IsMadeStopped holds file made stops fault out)
    half_written (Ok x) failed = tt
    half_written (Err fault) failed = inr (inr (bytes, plan, has, is, failed.0, prefix, failed.1))
