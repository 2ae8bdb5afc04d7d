-- A decision that is sure never reports a failed store, so it goes with no failure.
use Rattle.std.proofs.Common.{◌≡◌, ◌≢◌, ℕ, Result, Ok, Err, refl}
use Rattle.std.specs.Prelude.{IfErr}
use Rattle.shop_records.specs.declared.changes.Change.{Change}
use Rattle.shop_records.specs.declared.refusals.Refusal.{Refusal}
use Rattle.shop_records.specs.declared.refusals.Refusal.TheVariants.{StoreFault}
use Rattle.shop_desk.specs.Faults.{CountsRefusal, CountsDecision}

other_refusal : (before after : ℕ) (refusal : Refusal) → (refusal ≢ StoreFault) → after ≡ before → CountsRefusal refusal before after
other_refusal before after StoreFault other same = absurd (other refl)
other_refusal before after _ other same = same

pub counts_sure : (before after : ℕ) (result : Result Change Refusal) → IfErr result (λ refusal. refusal ≢ StoreFault) → after ≡ before → CountsDecision result before after
counts_sure before after (Ok made) sure same = same
counts_sure before after (Err refusal) sure same = other_refusal before after refusal sure same
