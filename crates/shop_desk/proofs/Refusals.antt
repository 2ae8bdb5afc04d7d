-- Refusals, on whatever content.
use Rattle.std.proofs.Common.{◌≡◌}
use Rattle.std.specs.Prelude.{Option, Some, None, IfSome, is_some, not, true}
use Rattle.shop_records.specs.declared.messages.Reply.{Reply}
use Rattle.shop_records.specs.declared.refusals.Refusal.{Refusal}
use Rattle.shop_records.specs.Messages.{refusal_in, is_accepted}

-- an accepted reply is no refusal
pub none_refused : (answer : Reply) (P : Refusal → Type 0) → is_accepted answer ≡ true → IfSome (refusal_in answer) P
none_refused answer P made = by (refusal_in answer) made
  where
    by : (o : Option Refusal) → not (is_some o) ≡ true → IfSome o P
    by None e = tt
    by (Some refusal) e = absurd (cc e)
