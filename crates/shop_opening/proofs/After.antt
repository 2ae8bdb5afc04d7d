-- What may be left after messages that were answered stands for a content that is after them.
use Rattle.std.proofs.Common.{◌≡◌, ◌⊎◌, List, [], ◌∷◌, Option, Some, None, inl, inr, refl, sym, subst}
use Rattle.std.specs.Prelude.{MatchOption}
use Rattle.shop_records.specs.declared.messages.Message.{Message}
use Rattle.shop_records.specs.declared.messages.Reply.{Reply}
use Rattle.shop_records.specs.declared.refusals.Refusal.{Refusal}
use Rattle.shop_records.specs.declared.texts.Kept.{Kept}
use Rattle.shop_records.specs.Readings.{Reading}
use Rattle.shop_records.specs.Messages.{refusal_in, message_id_of}
use Rattle.shop_records.specs.Content.{Content, kept_at}
use Rattle.shop_machine.specs.Machine.{Accepts, Refuses, Step, StepAgain, StepNew}
use Rattle.shop_desk.specs.Handled.{Leads, CrashStatesAfter}
use Rattle.shop_forms.specs.Forms.{json_texts}
use Rattle.shop_opening.specs.Stops.{IsAfter, WasRefused}

-- what is left stands for a content that is after
pub record StandsAfter {Left : Type 0} (stands : Left → Content → Type 0) (refused : Message → Type 0) (next : Content) (left : Left) : Type 0 where
  pub found : Content
  pub after : IsAfter refused next found
  pub left_stands : stands left found

-- one of these, or this one, if it was refused
abbrev Also : (Message → Type 0) → Message → Reply → Message → Type 0
Also refused message answer m = refused m ⊎ ((message ≡ m) × ((refusal : Refusal) × (refusal_in answer ≡ Some refusal)))

module _ {Left : Type 0} (stands : Left → Content → Type 0) where
  more : (refused other : Message → Type 0) (old next : Content) (left : Left) → ((m : Message) → refused m → other m) → next ≡ old → StandsAfter stands refused old left → StandsAfter stands other next left
  more refused other old next left f same s = record {
    found = s.found;
    after = elim s.after [
      | inl is ↦ inl (subst (λ m. s.found ≡ m) (sym same) is)
      | inr further ↦ inr (record { message = further.message; was = f further.message further.was; other = further.other; step = subst (λ m. StepNew json_texts m further.message further.other s.found) (sym same) further.step })
    ];
    left_stands = s.left_stands;
  }

  module _ (before : Left → Type 0) (refused : Message → Type 0) (old : Content) (was : (left : Left) → before left → StandsAfter stands refused old left) (message : Message) (answer : Reply) (next : Content) (left : Left) where
    handled_at : (kept : Option Kept) (r : Option Refusal) → refusal_in answer ≡ r
        → MatchOption kept (MatchOption r ((read : Reading) × Accepts json_texts old message read answer next) (λ refusal. Refuses json_texts old message.command refusal × (next ≡ old))) (λ row. StepAgain json_texts row message answer × (next ≡ old))
        → MatchOption kept (MatchOption r (stands left next) (λ refusal. before left ⊎ ((other : Reply) × (made : Content) × StepNew json_texts old message other made × stands left made))) (λ row. before left)
        → StandsAfter stands (Also refused message answer) next left
    handled_at (Some row) r is step may = more refused (Also refused message answer) old next left (λ m p. inl p) step.1 (was left may)
    handled_at None None is step may = record { found = next; after = inl refl; left_stands = may }
    handled_at None (Some refusal) is step may = elim may [
      | inl same ↦ more refused (Also refused message answer) old next left (λ m p. inl p) step.1 (was left same)
      | inr further ↦ record {
        found = further.1;
        after = inr (record { message = message; was = inr (refl, (refusal, is)); other = further.0; step = subst (λ m. StepNew json_texts m message further.0 further.1) (sym step.1) further.2 });
        left_stands = further.3;
      }
    ]

    handled : Step json_texts old message answer next → CrashStatesAfter json_texts stands before old message answer next left → StandsAfter stands (Also refused message answer) next left
    handled step may = handled_at (kept_at old (message_id_of message)) (refusal_in answer) refl step may

  pub stands_after : (messages : List Message) (answers : List Reply) (before after : Left → Type 0) (refused : Message → Type 0) (old next : Content) → ((left : Left) → before left → StandsAfter stands refused old left)
      → Leads json_texts stands before old messages answers next after → (left : Left) → after left → StandsAfter stands (λ m. refused m ⊎ WasRefused messages answers m) next left
  stands_after [] [] before after refused old next was leads left may = more refused (λ m. refused m ⊎ WasRefused [] [] m) old next left (λ m p. inl p) leads.0 (was left (leads.1 left may))
  stands_after [] (answer ∷ answers) before after refused old next was leads left may = absurd leads
  stands_after (message ∷ messages) [] before after refused old next was leads left may = absurd leads
  stands_after (message ∷ messages) (answer ∷ answers) before after refused old next was leads left may =
      let later = stands_after messages answers (CrashStatesAfter json_texts stands before old message answer leads.0) after (Also refused message answer) leads.0 next
      (λ it now. handled before refused old was message answer leads.0 it leads.1 now) leads.2 left may in
      more (λ m. Also refused message answer m ⊎ WasRefused messages answers m) (λ m. refused m ⊎ WasRefused (message ∷ messages) (answer ∷ answers) m) next next left (λ m p. elim p [
        | inl prefix ↦ elim prefix [ inl earlier ↦ inl earlier | inr this ↦ inr (inl this) ]
        | inr after ↦ inr (inr after)
      ]) refl later
