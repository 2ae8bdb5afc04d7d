-- Faults of a book as refusals, and how they are counted.
use Rattle.std.specs.Prelude.{◌≡◌, ℕ, ◌<◌, ◌≤◌, ◌⊎◌, List, Result, Ok, Err, MatchOption}
use Rattle.shop_records.specs.declared.refusals.Refusal.{Refusal}
use Rattle.shop_records.specs.declared.refusals.Refusal.TheVariants.{StoreFault}
use Rattle.shop_records.specs.declared.messages.Reply.{Reply}
use Rattle.shop_records.specs.declared.messages.Reply.TheVariants.{Refused}
use Rattle.shop_records.specs.Messages.{refusal_in}
use Rattle.shop_records.specs.Elements.{IsIn}
use Rattle.shop_book.specs.declared.books.TheConstants.{MAX_FAILURES}
use Rattle.shop_book.specs.Failures.{one_more_failure}

-- the count of failures rose, or was at its greatest value
abbrev pub StoreFailed : ℕ → ℕ → Type 0
StoreFailed before after = (before < after) ⊎ (after ≡ MAX_FAILURES)

-- replies report a failed store only where it failed meanwhile
abbrev pub ReportOfFailures : List Reply → ℕ → ℕ → Type 0
ReportOfFailures answers before after = IsIn (Refused StoreFault) answers → StoreFailed before after

-- the count of failures stayed, rose in its range, or stands at its greatest value
abbrev pub CountsUp : ℕ → ℕ → Type 0
CountsUp before after = (after ≡ before) ⊎ (((before < after) × (after ≤ MAX_FAILURES)) ⊎ (after ≡ MAX_FAILURES))

-- a refusal that reports a failed store goes with one more failure, and each other one with none
abbrev pub CountsRefusal : Refusal → ℕ → ℕ → Type 0
CountsRefusal StoreFault before after = after ≡ one_more_failure before
CountsRefusal _ before after = after ≡ before

abbrev pub CountsDecision : {T : Type 0} → Result T Refusal → ℕ → ℕ → Type 0
CountsDecision (Ok made) before after = after ≡ before
CountsDecision (Err refusal) before after = CountsRefusal refusal before after

-- the failures that an answer goes with
abbrev pub CountsReply : Reply → ℕ → ℕ → Type 0
CountsReply answer before after = MatchOption (refusal_in answer) (after ≡ before) (λ refusal. CountsRefusal refusal before after)

-- The same where rows may also contradict each other: then the store didn't fail, and no failure is counted.
abbrev pub CountsOrContradicts : Reply → ℕ → ℕ → Type 0
CountsOrContradicts answer before after =
    CountsReply answer before after ⊎ ((answer ≡ Refused StoreFault) × (after ≡ before))
