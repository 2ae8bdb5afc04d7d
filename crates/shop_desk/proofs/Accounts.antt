-- The account after some messages, and after more of them.
use Rattle.std.proofs.Common.{◌≡◌, List, [], ◌∷◌, ◌++◌, map, refl, sym, ap, subst, ◌∙◌}
use Rattle.std.specs.Prelude.{not, ◌&&◌, if◌then◌else◌}
use Rattle.shop_records.specs.declared.messages.Message.{Message}
use Rattle.shop_records.specs.declared.messages.Reply.{Reply}
use Rattle.shop_records.specs.Messages.{Texts, IsMessage, is_accepted, message_id_of}
use Rattle.shop_records.specs.Content.{Content}
use Rattle.shop_machine.specs.Machine.{Step}
use Rattle.shop_machine.specs.History.{IsAccountOf, messages_of, history_after, has_message_id}
use Rattle.shop_machine.proofs.Runs.{gives_step}
use Rattle.shop_machine.proofs.Owners.{account_of}
use Rattle.shop_desk.specs.Handled.{HasAccount}

module _ (texts : Texts) where
  -- nothing was accepted
  pub account_same : (old next : Content) → next ≡ old → HasAccount texts old [] [] next
  account_same old next same history given = (history, refl, subst (IsAccountOf texts history) (sym same) (account_of texts history old given))

  -- a step
  pub account_step : (old next : Content) (message : Message) (answer : Reply) → IsMessage message → Step texts old message answer next → HasAccount texts old (message ∷ []) (answer ∷ []) next
  account_step old next message answer is step history given =
      let later = gives_step texts history old next message given is answer step in (later.history, later.same, account_of texts later.history next later.given)

  -- exchanges, and then more of them
  history_more : (history : List Message) (es fs : List (Message × Reply))
      → history_after history (map (λ e. e.0) (es ++ fs)) (map (λ e. e.1) (es ++ fs)) ≡ history_after (history_after history (map (λ e. e.0) es) (map (λ e. e.1) es)) (map (λ e. e.0) fs) (map (λ e. e.1) fs)
  history_more history [] fs = refl
  history_more history (e ∷ es) fs = history_more (if is_accepted e.1 && not (has_message_id (message_id_of e.0) history) then e.0 ∷ history else history) es fs

  pub account_more : (old mid next : Content) (es fs : List (Message × Reply)) → HasAccount texts old (map (λ e. e.0) es) (map (λ e. e.1) es) mid → HasAccount texts mid (map (λ e. e.0) fs) (map (λ e. e.1) fs) next
      → HasAccount texts old (map (λ e. e.0) (es ++ fs)) (map (λ e. e.1) (es ++ fs)) next
  account_more old mid next es fs first second history given =
      let one = first history given in
      let two = second one.0 one.2.given in
      (two.0, two.1 ∙ ap (λ h. history_after h (map (λ e. e.0) fs) (map (λ e. e.1) fs)) one.1 ∙ sym (history_more (messages_of history) es fs), two.2)
