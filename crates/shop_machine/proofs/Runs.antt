-- Runs of the machine, and the histories that they leave.
use Rattle.std.proofs.Common.{◌≡◌, ℕ, nat_eq, arith, List, [], ◌∷◌, ◌++◌, Bool, true, false, Option, Some, None, refl, sym, ap, subst, ◌∙◌, inl, inr}
use Rattle.std.specs.Prelude.{MatchOption, is_some, ◌&&◌, ◌||◌, not, cond, if◌then◌else◌}
use Rattle.std.specs.declared.cmp.Ordering.{Ordering}
use Rattle.std.specs.declared.cmp.Ordering.TheVariants.{Less, Equal, Greater}
use Rattle.std.specs.Ordering.{nat_cmp, is_eq, ordering_then, eq_by_cmp}
use Rattle.std.proofs.lemmas.Bool.Decides.{nat_tests}
use Rattle.std.specs.FinMap.{get-empty, get-insert}
use Rattle.shop_records.specs.declared.texts.MessageId.{MessageId}
use Rattle.shop_records.specs.declared.texts.Kept.{Kept}
use Rattle.shop_records.specs.declared.messages.Message.{Message}
use Rattle.shop_records.specs.declared.messages.Reply.{Reply}
use Rattle.shop_records.specs.declared.refusals.Refusal.{Refusal}
use Rattle.shop_records.specs.Messages.{Texts, IsMessage, refusal_in, is_accepted, message_id_of}
use Rattle.shop_records.specs.Content.{Content, message_id_cmp, kept_at}
use Rattle.shop_records.specs.Readings.{Reading}
use Rattle.shop_machine.specs.Machine.{Accepts, Refuses, StepNew, StepAgain, Step, Run}
use Rattle.shop_records.specs.Same.{same_message_id}
use Rattle.shop_machine.specs.History.{Entry, messages_of, Gives, MayForget, history_after, has_message_id}
use Rattle.shop_records.proofs.Puts.{message_ids_total}

module _ (texts : Texts) where
  -- a run goes on by one step
  pub run_more : (old mid new : Content) (messages : List Message) (replies : List Reply) (message : Message) (answer : Reply)
      → Run texts old messages replies mid → Step texts mid message answer new → Run texts old (messages ++ message ∷ []) (replies ++ answer ∷ []) new
  run_more old mid new [] [] message answer run step = (new, subst (λ c. Step texts c message answer new) run step, refl)
  run_more old mid new [] (r ∷ rs) message answer run step = absurd run
  run_more old mid new (m ∷ ms) [] message answer run step = absurd run
  run_more old mid new (m ∷ ms) (r ∷ rs) message answer run step = (run.0, run.1, run_more run.0 mid new ms rs message answer run.2 step)

-- ---- message IDs that are kept

eq_numbers : (x y : ℕ) → is_eq (nat_cmp x y) ≡ nat_eq x y
eq_numbers x y = grind (arith, nat_tests)

both_eq : (a b : Ordering) → is_eq (ordering_then a b) ≡ (is_eq a && is_eq b)
both_eq Less b = refl
both_eq Equal b = refl
both_eq Greater b = refl

-- two message IDs are one where the order does not tell them apart
pub same_by_order : (a b : MessageId) → eq_by_cmp message_id_cmp a b ≡ same_message_id a b
same_by_order a b =
    both_eq (nat_cmp a.terminal b.terminal) (nat_cmp a.number b.number)
    ∙ ap (λ t. t && is_eq (nat_cmp a.number b.number)) (eq_numbers a.terminal b.terminal)
    ∙ ap (λ n. nat_eq a.terminal b.terminal && n) (eq_numbers a.number b.number)

swapped : (x y : ℕ) → nat_eq x y ≡ nat_eq y x
swapped x y = grind (arith, nat_tests)

pub same_message_id-swap : (a b : MessageId) → same_message_id a b ≡ same_message_id b a
same_message_id-swap a b = ap (λ t. t && nat_eq a.number b.number) (swapped a.terminal b.terminal) ∙ ap (λ n. nat_eq b.terminal a.terminal && n) (swapped a.number b.number)

chosen : {X : Type 0} (b : Bool) (x : X) (o : Option X) → is_some (cond b (Some x) o) ≡ (b || is_some o)
chosen true x o = refl
chosen false x o = refl

-- who forgets entries keeps messages
kept_left : (left content : Content) → MayForget left content → (message_id : MessageId) → kept_at content message_id ≡ kept_at left message_id
kept_left left content (inl same) message_id = ap (λ (c : Content). kept_at c message_id) same
kept_left left content (inr same) message_id = ap (λ (c : Content). kept_at c message_id) same

-- what a history keeps are its message IDs
pub kept_by : (texts : Texts) (history : List Entry) (content : Content) → Gives texts history content → (message_id : MessageId) → is_some (kept_at content message_id) ≡ has_message_id message_id (messages_of history)
kept_by texts [] content given message_id = ap (λ (c : Content). is_some (kept_at c message_id)) given ∙ ap is_some (get-empty message_id_cmp message_id)
kept_by texts (entry ∷ earlier) content (before, answer, given, is_message, new, left, accepts, forgets) message_id =
    ap is_some (kept_left left content forgets message_id)
    ∙ ap (λ (c : Content). is_some (kept_at c message_id)) accepts.becomes
    ∙ ap is_some (get-insert message_ids_total before.kept (message_id_of entry.message) _ message_id)
    ∙ chosen (eq_by_cmp message_id_cmp message_id (message_id_of entry.message)) _ (kept_at before message_id)
    ∙ ap (λ b. b || is_some (kept_at before message_id)) (same_by_order message_id (message_id_of entry.message) ∙ same_message_id-swap message_id (message_id_of entry.message))
    ∙ ap (λ b. same_message_id (message_id_of entry.message) message_id || b) (kept_by texts earlier before given message_id)

-- ---- the history after a run

-- a history with these messages gives the content
pub record IsLater (texts : Texts) (messages : List Message) (content : Content) : Type 0 where
  pub history : List Entry
  pub same : messages_of history ≡ messages
  pub given : Gives texts history content

abbrev accepted_after : List Message → Message → Reply → List Message
accepted_after history message answer = history_after history (message ∷ []) (answer ∷ [])

module _ (texts : Texts) (history : List Entry) (old new : Content) (message : Message) (given : Gives texts history old) (is_message : IsMessage message) where
  stays : (messages : List Message) → messages ≡ messages_of history → new ≡ old → IsLater texts messages new
  stays messages e same = record { history = history; same = sym e; given = subst (Gives texts history) (sym same) given }

  gives_new : (answer : Reply) (o : Option Refusal) → refusal_in answer ≡ o → kept_at old (message_id_of message) ≡ None → has_message_id (message_id_of message) (messages_of history) ≡ false
      → MatchOption o ((read : Reading) × Accepts texts old message read answer new) (λ refusal. Refuses texts old message.command refusal × (new ≡ old))
      → IsLater texts (accepted_after (messages_of history) message answer) new
  gives_new answer (Some refusal) is none first step =
      stays (accepted_after (messages_of history) message answer)
      (ap (λ o. if not (is_some o) && not (has_message_id (message_id_of message) (messages_of history)) then message ∷ messages_of history else messages_of history) is) step.1
  gives_new answer None is none first step = record {
    history = record { message = message; read = step.0 } ∷ history;
    same = sym (ap (λ o. if not (is_some o) && not (has_message_id (message_id_of message) (messages_of history)) then message ∷ messages_of history else messages_of history) is
        ∙ ap (λ b. if not b then message ∷ messages_of history else messages_of history) first);
    given = (old, answer, given, is_message, none, new, step.1, inl refl);
  }

  unchanged : (b : Bool) → has_message_id (message_id_of message) (messages_of history) ≡ true
      → (if b && not (has_message_id (message_id_of message) (messages_of history)) then message ∷ messages_of history else messages_of history) ≡ messages_of history
  unchanged true again = ap (λ h. if not h then message ∷ messages_of history else messages_of history) again
  unchanged false again = refl

  by_kept : (answer : Reply) (row : Option Kept) → kept_at old (message_id_of message) ≡ row → is_some row ≡ has_message_id (message_id_of message) (messages_of history)
      → MatchOption row (StepNew texts old message answer new) (λ row. StepAgain texts row message answer × (new ≡ old))
      → IsLater texts (accepted_after (messages_of history) message answer) new
  by_kept answer None e first step = gives_new answer (refusal_in answer) refl e (sym first) step
  by_kept answer (Some row) e again step = stays (accepted_after (messages_of history) message answer) (unchanged (is_accepted answer) (sym again)) step.1

  -- a step from what a history gives, and the history after it
  pub gives_step : (answer : Reply) → Step texts old message answer new → IsLater texts (accepted_after (messages_of history) message answer) new
  gives_step answer step = by_kept answer (kept_at old (message_id_of message)) refl (kept_by texts history old given (message_id_of message)) step

-- each of the messages is one
abbrev pub AreMessages : List Message → Type 0
AreMessages [] = Unit {0}
AreMessages (message ∷ messages) = IsMessage message × AreMessages messages

-- the history after a run gives the content after it
pub gives_after : (texts : Texts) (history : List Entry) (old new : Content) (messages : List Message) (answers : List Reply)
    → AreMessages messages → Gives texts history old → Run texts old messages answers new → IsLater texts (history_after (messages_of history) messages answers) new
gives_after texts history old new [] [] are given run = record { history = history; same = refl; given = subst (Gives texts history) (sym run) given }
gives_after texts history old new [] (r ∷ rs) are given run = absurd run
gives_after texts history old new (m ∷ ms) [] are given run = absurd run
gives_after texts history old new (m ∷ ms) (r ∷ rs) are given run =
    let next = gives_step texts history old run.0 m given are.0 r run.1 in
    let after = gives_after texts next.history run.0 new ms rs are.1 next.given run.2 in
    record { history = after.history; same = after.same ∙ ap (λ h. history_after h ms rs) next.same; given = after.given }
