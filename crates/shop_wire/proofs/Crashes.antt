-- What a crash may leave, a message after another.
use Rattle.std.proofs.Common.{◌≡◌, List, [], ◌∷◌, ◌++◌, map, Option, Some, None, inl, inr, refl, sym, subst}
use Rattle.std.specs.Prelude.{MatchOption}
use Rattle.shop_records.specs.declared.texts.Kept.{Kept}
use Rattle.shop_records.specs.declared.messages.Message.{Message}
use Rattle.shop_records.specs.declared.messages.Reply.{Reply}
use Rattle.shop_records.specs.declared.messages.Reply.TheVariants.{Refused}
use Rattle.shop_records.specs.declared.refusals.Refusal.{Refusal}
use Rattle.shop_records.specs.declared.refusals.Refusal.TheVariants.{NoMemory}
use Rattle.shop_records.specs.Messages.{Texts, message_id_of}
use Rattle.shop_records.specs.Content.{Content, kept_at}
use Rattle.shop_records.specs.WellFormed.{IsWellFormed}
use Rattle.shop_machine.specs.Machine.{Step, StepAgain, StepNew}
use Rattle.shop_desk.specs.Handled.{CrashStatesAfter, CrashStatesAfterNew, Leads}
use Rattle.shop_desk.proofs.Steps.{left_more}
use Rattle.shop_wire.specs.AnswerBytes.{replied}
use Rattle.shop_wire.specs.Replays.{with_reply}
use Rattle.shop_wire.specs.Responses.{IsUnread}

-- lack of memory refuses any message
pub no_memory_step : (texts : Texts) (m : Content) (message : Message) (found : Option Kept)
    → MatchOption found (StepNew texts m message (Refused NoMemory) m) (λ row. StepAgain texts row message (Refused NoMemory) × (m ≡ m))
no_memory_step texts m message None = ((λ n s. absurd (n refl)), refl)
no_memory_step texts m message (Some row) = ((λ n s. absurd (n refl)), refl)

module _ (texts : Texts) {Left : Type 0} (stands : Left → Content → Type 0) where
  -- one message
  pub leads_one : (before after : Left → Type 0) (old next : Content) (message : Message) (answer : Reply) → Step texts old message answer next
      → ((left : Left) → after left → CrashStatesAfter texts stands before old message answer next left) → Leads texts stands before old (message ∷ []) (answer ∷ []) next after
  leads_one before after old next message answer step crash = (next, step, (refl, crash))

  -- after lack of memory what could be left before
  left_refused : (before : Left → Type 0) (m : Content) (message : Message) (left : Left) (found : Option Kept) → before left
      → MatchOption found (CrashStatesAfterNew texts stands before m message (Refused NoMemory) m left) (λ (row : Kept). before left)
  left_refused before m message left None it = inl it
  left_refused before m message left (Some row) it = it

  -- what wasn't read as a message, though it may be one: nothing was done, and it was refused
  pub leads_unread : (before after : Left → Type 0) (m : Content) (refusal : Refusal) (o : Option Message) → IsUnread refusal o → IsWellFormed texts m → ((left : Left) → after left → before left)
      → Leads texts stands before m (map (λ e. e.0) (with_reply o (replied (Refused refusal)))) (map (λ e. e.1) (with_reply o (replied (Refused refusal)))) m after
  leads_unread before after m refusal None why well_formed keeps = (refl, keeps)
  leads_unread before after m refusal (Some message) (inl is) well_formed keeps =
      subst (λ r. Leads texts stands before m (message ∷ []) (Refused r ∷ []) m after) (sym is)
      (leads_one before after m m message (Refused NoMemory) (no_memory_step texts m message (kept_at m (message_id_of message)))
      (λ left it. left_refused before m message left (kept_at m (message_id_of message)) (keeps left it)))
  leads_unread before after m refusal (Some message) (inr why) well_formed keeps = absurd (cc why.1)

  -- what may be left grows with what could be left before
  leads_grow : (before mid after : Left → Type 0) → ((left : Left) → mid left → before left) → (old new : Content) (messages : List Message) (answers : List Reply)
      → Leads texts stands mid old messages answers new after → Leads texts stands before old messages answers new after
  leads_grow before mid after grows old new [] [] leads = (leads.0, λ left it. grows left (leads.1 left it))
  leads_grow before mid after grows old new [] (r ∷ rs) leads = absurd leads
  leads_grow before mid after grows old new (m ∷ ms) [] leads = absurd leads
  leads_grow before mid after grows old new (m ∷ ms) (r ∷ rs) leads = (
    leads.0,
    leads.1,
    leads_grow (CrashStatesAfter texts stands before old m r leads.0) (CrashStatesAfter texts stands mid old m r leads.0) after
        (left_more texts stands before mid grows old m r leads.0) leads.0 new ms rs leads.2,
  )

  -- exchanges, and then more of them
  pub leads_join : (before mid after : Left → Type 0) (old at new : Content) (es fs : List (Message × Reply))
      → Leads texts stands before old (map (λ e. e.0) es) (map (λ e. e.1) es) at mid → Leads texts stands mid at (map (λ e. e.0) fs) (map (λ e. e.1) fs) new after
      → Leads texts stands before old (map (λ e. e.0) (es ++ fs)) (map (λ e. e.1) (es ++ fs)) new after
  leads_join before mid after old at new [] fs first second =
      leads_grow before mid after first.1 old new (map (λ e. e.0) fs) (map (λ e. e.1) fs)
      (subst (λ (c : Content). Leads texts stands mid c (map (λ e. e.0) fs) (map (λ e. e.1) fs) new after) first.0 second)
  leads_join before mid after old at new (e ∷ es) fs first second =
      (first.0, first.1, leads_join (CrashStatesAfter texts stands before old e.0 e.1 first.0) mid after first.0 at new es fs first.2 second)
