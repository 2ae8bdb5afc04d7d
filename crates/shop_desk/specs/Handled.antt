-- What handling a message does to a book, and to what a crash may leave of it.
use Rattle.std.specs.Prelude.{◌≡◌, ◌⊎◌, ℕ, List, [], ◌∷◌, MatchOption, IfSome}
use Rattle.std.specs.FinMap.{len}
use Rattle.shop_records.specs.declared.messages.Message.{Message}
use Rattle.shop_records.specs.declared.messages.Reply.{Reply}
use Rattle.shop_records.specs.declared.messages.Reply.TheVariants.{Refused}
use Rattle.shop_records.specs.declared.refusals.Refusal.TheVariants.{StoreFault}
use Rattle.shop_records.specs.Messages.{Texts, IsMessage, refusal_in, message_id_of}
use Rattle.shop_records.specs.Content.{Content, entry_count, fresh, kept_at}
use Rattle.shop_machine.specs.Machine.{StepNew, Step, StepAt, Run}
use Rattle.shop_machine.specs.History.{Entry, entered_message_ids, messages_of, message_ids_of, Gives, IsAccountOf, history_after}
use Rattle.shop_records.specs.WellFormed.{IsWellFormed}
use Rattle.shop_book.specs.declared.books.Book.{Ghosts}
use Rattle.shop_book.specs.Kept.{OnContent}
use Rattle.shop_desk.specs.Faults.{StoreFailed, ReportOfFailures, CountsOrContradicts}

module _ (texts : Texts) {Left : Type 0} (stands : Left → Content → Type 0) where
  -- What may be left after a message that wasn't kept: once it is accepted what stands for the next content, and once it
  -- is refused what could be left before, or what stands for the message's own step.
  abbrev pub CrashStatesAfterNew : (Left → Type 0) → Content → Message → Reply → Content → Left → Type 0
  CrashStatesAfterNew before old message answer next left =
      MatchOption (refusal_in answer)
      (stands left next)
      (λ refusal. before left ⊎ ((other : Reply) × (made : Content) × StepNew texts old message other made × stands left made))

  -- after a message that was kept, what could be left before
  abbrev pub CrashStatesAfter : (Left → Type 0) → Content → Message → Reply → Content → Left → Type 0
  CrashStatesAfter before old message answer next left =
      MatchOption (kept_at old (message_id_of message)) (CrashStatesAfterNew before old message answer next left) (λ row. before left)

  -- The book held old and holds next, a step of the machine later.
  pub record IsHandled (before after : Left → Type 0) (holds : Content → Type 0) (old : Content) (message : Message) (answer : Reply) : Type 0 where
    pub next : Content
    pub step : Step texts old message answer next
    pub held : holds next
    pub well_formed : IsWellFormed texts next
    pub crash : (left : Left) → after left → CrashStatesAfter before old message answer next left

  -- the same of a message that was given this time
  pub record IsHandledAt (at : ℕ) (before after : Left → Type 0) (holds : Content → Type 0) (old : Content) (message : Message) (answer : Reply) : Type 0 where
    pub handled : IsHandled before after holds old message answer
    pub timed : StepAt texts at old message answer handled.next

  -- The same of messages in order: what may be left is what may be left after each step in turn.
  abbrev pub Leads : (Left → Type 0) → Content → List Message → List Reply → Content → (Left → Type 0) → Type 0
  Leads before old [] [] new after = (new ≡ old) × ((left : Left) → after left → before left)
  Leads before old (message ∷ messages) (answer ∷ answers) new after =
      (next : Content) × Step texts old message answer next × Leads (CrashStatesAfter before old message answer next) next messages answers new after
  Leads before old [] (answer ∷ answers) new after = ⊥
  Leads before old (message ∷ messages) [] new after = ⊥

-- each well-formed content that a book with a clean disk held led to one a step of the machine later, which it holds
abbrev pub Handles : {B : Type 0} → Texts → Ghosts B → B → B → Message → Reply → Type 0
Handles texts book before after message answer =
    OnContent book before after (λ m. IsWellFormed texts m
    → IsHandled texts book.stands (book.may_leave before) (book.may_leave after) (book.holds after) m message answer)

-- the same of a message that was given this time
abbrev pub HandlesAt : {B : Type 0} → Texts → (at : ℕ) → Ghosts B → B → B → Message → Reply → Type 0
HandlesAt texts at book before after message answer =
    OnContent book before after (λ m. IsWellFormed texts m
    → IsHandledAt texts book.stands at (book.may_leave before) (book.may_leave after) (book.holds after) m message answer)

-- over such a content a failed store is reported only where it failed
abbrev pub JustifiesStoreFault : {B : Type 0} → Texts → Ghosts B → B → B → Reply → Type 0
JustifiesStoreFault texts book before after answer =
    OnContent book before after (λ m. IsWellFormed texts m → answer ≡ Refused StoreFault → StoreFailed (book.failed before) (book.failed after))

-- a refusal leaves each content that a book with a clean disk held, whether a history gives it or not
abbrev pub RefusalKeeps : {B : Type 0} → Ghosts B → B → B → Reply → Type 0
RefusalKeeps book before after answer = OnContent book before after (λ m. IfSome (refusal_in answer) (λ refusal. book.holds after m))

-- all that is said of the handling of one message, from the book before it to the book after it
pub record HandlesMessage {B : Type 0} (texts : Texts) (book : Ghosts B) (before after : B) (message : Message) (answer : Reply) : Type 0 where
  pub step : Handles texts book before after message answer
  pub refused : RefusalKeeps book before after answer
  pub is_message : IsMessage message
  pub clean_disk : book.has_clean_disk after → book.has_clean_disk before
  pub failures : CountsOrContradicts answer (book.failed before) (book.failed after)
  pub store_fault : JustifiesStoreFault texts book before after answer

-- the same of a message that was given this time
pub record HandlesMessageAt {B : Type 0} (texts : Texts) (at : ℕ) (book : Ghosts B) (before after : B) (message : Message) (answer : Reply) : Type 0 where
  pub handled : HandlesMessage texts book before after message answer
  pub timed : HandlesAt texts at book before after message answer

-- one by one, what was asked leads from one book to the next, with what was answered to it
abbrev pub OneByOne : {B X A : Type 0} → (B → B → X → A → Type 0) → B → List X → List A → B → Type 0
OneByOne leads before [] [] after = after ≡ before
OneByOne {B} leads before (x ∷ asked) (answer ∷ answers) after = (mid : B) × leads before mid x answer × OneByOne leads mid asked answers after
OneByOne leads before [] (answer ∷ answers) after = ⊥
OneByOne leads before (x ∷ asked) [] after = ⊥

-- messages and their replies in turn lead from one book to the next, and each step is the handling of its message
abbrev pub AreHandled : {B : Type 0} → Texts → Ghosts B → B → List Message → List Reply → B → Type 0
AreHandled texts book before messages answers after = OneByOne (HandlesMessage texts book) before messages answers after

-- the same of messages that were all given this time
abbrev pub AreHandledAt : {B : Type 0} → Texts → (at : ℕ) → Ghosts B → B → List Message → List Reply → B → Type 0
AreHandledAt texts at book before messages answers after = OneByOne (HandlesMessageAt texts at book) before messages answers after

-- Where a history gives old, one whose messages are those of that history with each new message once gives next, and this is
-- its account.
abbrev pub HasAccount : Texts → Content → List Message → List Reply → Content → Type 0
HasAccount texts old messages answers next = (history : List Entry) → Gives texts history old
    → (later : List Entry) × (messages_of later ≡ history_after (messages_of history) messages answers) × IsAccountOf texts later next

-- a content has an entry for each message that is kept
abbrev pub HasAllEntries : Content → Type 0
HasAllEntries content = len content.kept ≡ entry_count content

-- Where old is fresh, or has an entry for each message that is kept, next has one too, and of each history that gives next the
-- message IDs of its messages, the newest first, are those of its entries.
abbrev pub HasEntries : Texts → (old next : Content) → Type 0
HasEntries texts old next =
    ((old ≡ fresh) ⊎ HasAllEntries old)
    → HasAllEntries next × ((history : List Entry) → Gives texts history next → message_ids_of history ≡ entered_message_ids next)

-- The book held old and holds next, a run of the machine later, with its account and its entries, and reports a failed store
-- only where it failed.
pub record HasRun {B : Type 0} (texts : Texts) (book : Ghosts B) (before after : B) (old : Content) (messages : List Message) (answers : List Reply) : Type 0 where
  pub next : Content
  pub run : Run texts old messages answers next
  pub held : book.holds after next
  pub well_formed : IsWellFormed texts next
  pub crash : Leads texts book.stands (book.may_leave before) old messages answers next (book.may_leave after)
  pub store_fault_justified : ReportOfFailures answers (book.failed before) (book.failed after)
  pub account : HasAccount texts old messages answers next
  pub entries : HasEntries texts old next
