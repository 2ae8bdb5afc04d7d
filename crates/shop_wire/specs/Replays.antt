-- What lines stand for, what is answered to them, and what is written.
use Rattle.std.specs.Prelude.{◌≡◌, ◌≢◌, ℕ, ◌&&◌, List, [], ◌∷◌, ◌++◌, length, map, zip, filter_map, nat_le, if◌then◌else◌, Option, Some, None, Ok, Err, MatchOption, option_and_then}
use Rattle.std.specs.Str.{is_utf8}
use Rattle.std.specs.List.{flat_map}
use Rattle.std.specs.Io.KnownBytes.{Appends}
use Rattle.shop_records.specs.declared.refusals.Refusal.{Refusal}
use Rattle.shop_records.specs.declared.refusals.Refusal.TheVariants.{BadMessage, NoMemory, StoreFault}
use Rattle.shop_records.specs.declared.messages.Message.{Message}
use Rattle.shop_records.specs.declared.messages.Reply.{Reply}
use Rattle.shop_records.specs.declared.messages.Reply.TheVariants.{Refused}
use Rattle.shop_records.specs.Content.{Content, fresh}
use Rattle.shop_machine.specs.History.{Entry, messages_of, history_after, IsAccountOf}
use Rattle.shop_records.specs.Elements.{IsIn}
use Rattle.shop_machine.specs.Machine.{Step}
use Rattle.shop_answers.specs.Queries.{Answers}
use Rattle.shop_records.specs.WellFormed.{IsWellFormed}
use Rattle.serde_json.specs.Data.{Data}
use Rattle.serde_json.specs.Read.{read}
use Rattle.shop_forms.specs.Forms.{message_of, query_of, json_texts}
use Rattle.shop_plans.specs.declared.queries.PlansQuery.{PlansQuery}
use Rattle.shop_plans.specs.Queries.{plans_query_of}
use Rattle.shop_planning.specs.Queries.{AnswersPlans}
use Rattle.shop_book.specs.declared.books.Book.{Ghosts}
use Rattle.shop_book.specs.Kept.{OnContent}
use Rattle.shop_desk.specs.Faults.{CountsUp, ReportOfFailures}
use Rattle.shop_desk.specs.Handled.{HasAccount, Leads, OneByOne}
use Rattle.shop_wire.specs.Lines.{longest_line}
use Rattle.shop_wire.specs.AnswerBytes.{Response, replied, printed}

-- the value that a line of at most 131072 bytes is
abbrev pub data_of : List ℕ → Option Data
data_of line = if nat_le (length line) longest_line && is_utf8 line then read line else None

-- refused as no message, memory aside, and nothing is changed
abbrev pub IsNoMessage : Content → Reply → Content → Type 0
IsNoMessage old reply new = (reply ≢ Refused NoMemory → reply ≡ Refused BadMessage) × (new ≡ old)

-- a reply of which that holds
abbrev pub IsReplied : Response → (Reply → Type 0) → Type 0
IsReplied (replied reply) of = of reply
IsReplied (printed text) of = ⊥

-- the answer to a `plans` query is reported: its text, or its refusal
abbrev pub ReportsPlans : Content → PlansQuery → Response → Type 0
ReportsPlans old query (printed text) = AnswersPlans old query (Ok text)
ReportsPlans old query (replied reply) = (refusal : Refusal) × (reply ≡ Refused refusal) × AnswersPlans old query (Err refusal)

-- a `plans` query is answered, and anything else is refused
abbrev pub PlansStep : Content → Option PlansQuery → Response → Content → Type 0
PlansStep old asked response new =
    MatchOption asked (IsReplied response (λ reply. IsNoMessage old reply new)) (λ query. ReportsPlans old query response × (new ≡ old))

-- a value that is a message is a step of the machine, a query is answered, and so is a `plans` query; anything else is
-- refused
abbrev pub ValueStep : Content → Data → Response → Content → Type 0
ValueStep old d response new =
    MatchOption (message_of d)
    (MatchOption (query_of d) (PlansStep old (plans_query_of d) response new) (λ query. IsReplied response (λ reply. Answers old query reply × (new ≡ old))))
    (λ message. IsReplied response (λ reply. Step json_texts old message reply new))

abbrev pub LineStep : Content → List ℕ → Response → Content → Type 0
LineStep old line response new = MatchOption (data_of line) (IsReplied response (λ reply. IsNoMessage old reply new)) (λ d. ValueStep old d response new)

-- the message that a line is
abbrev pub line_message : List ℕ → Option Message
line_message line = option_and_then message_of (data_of line)

-- ---- what is reported

-- the replies among what was reported
abbrev pub reply_in : Response → Option Reply
reply_in (replied reply) = Some reply
reply_in (printed text) = None

abbrev pub replies_in : List Response → List Reply
replies_in responses = filter_map reply_in responses

-- a message, where there is one, with its reply
abbrev pub with_reply : Option Message → Response → List (Message × Reply)
with_reply (Some message) (replied reply) = (message, reply) ∷ []
with_reply _ response = []

-- what a crash may leave of the book now is what it may leave after each of these messages in turn, by its reply
abbrev pub ExchangesLead : {B : Type 0} → Ghosts B → B → B → Content → List (Message × Reply) → Content → Type 0
ExchangesLead book before after old es next = Leads json_texts book.stands (book.may_leave before) old (map (λ e. e.0) es) (map (λ e. e.1) es) next (book.may_leave after)

-- ---- what is asked in turn, whether by lines or otherwise: which response an element may get, and the message that it is

module _ {X : Type 0} (step : Content → X → Response → Content → Type 0) (message_in : X → Option Message) where
  -- one after another
  abbrev pub InTurn : Content → List X → List Response → Content → Type 0
  InTurn old asked responses new = OneByOne (λ from to x response. step from x response to) old asked responses new

  -- the messages among what was asked, each with its reply
  abbrev pub exchanges : List X → List Response → List (Message × Reply)
  exchanges asked responses = flat_map (λ e. with_reply (message_in e.0) e.1) (zip asked responses)

  -- The book held old and holds next: all was answered in turn. A crash leaves what it may leave after the messages among
  -- these. Replies report a failed store only where it failed. Where a history gives old, one whose messages are those of that
  -- history with each message among these that was accepted, once, gives next, and this is its account.
  pub record HasAnswered {B : Type 0} (book : Ghosts B) (before after : B) (old : Content) (asked : List X) (responses : List Response) : Type 0 where
    pub next : Content
    pub run : InTurn old asked responses next
    pub held : book.holds after next
    pub well_formed : IsWellFormed json_texts next
    pub crash : ExchangesLead book before after old (exchanges asked responses) next
    pub store_fault_justified : ReportOfFailures (replies_in responses) (book.failed before) (book.failed after)
    pub account : HasAccount json_texts old (map (λ e. e.0) (exchanges asked responses)) (map (λ e. e.1) (exchanges asked responses)) next

  -- All that is said of one that was asked and of what it was reported, from the book before it to the book after it: so a failed
  -- store is reported about only where it failed at this very one.
  pub record AnswersOne {B : Type 0} (book : Ghosts B) (before after : B) (x : X) (response : Response) : Type 0 where
    pub answered : OnContent book before after (λ m. IsWellFormed json_texts m → HasAnswered book before after m (x ∷ []) (response ∷ []))
    pub clean_disk : book.has_clean_disk after → book.has_clean_disk before
    pub failures : CountsUp (book.failed before) (book.failed after)

  -- All was answered one by one, and so in turn: each well-formed content that a book with a clean disk held before led to one
  -- that it holds now.
  pub record AnswersAll {B : Type 0} (book : Ghosts B) (before after : B) (asked : List X) (responses : List Response) : Type 0 where
    pub one_by_one : OneByOne (AnswersOne book) before asked responses after
    pub in_turn : OnContent book before after (λ m. IsWellFormed json_texts m → HasAnswered book before after m asked responses)

  -- A shop in which nothing was done yet, and under which no store can fail, was asked this, and answered so: no reply reports
  -- of a failed store, and the account is that of the messages that were accepted, each once.
  pub record IsFromFresh (asked : List X) (responses : List Response) : Type 0 where
    pub next : Content
    pub run : InTurn fresh asked responses next
    pub store_fault_justified : IsIn (Refused StoreFault) (replies_in responses) → ⊥
    pub history : List Entry
    pub messages : messages_of history ≡ history_after [] (map (λ e. e.0) (exchanges asked responses)) (map (λ e. e.1) (exchanges asked responses))
    pub account : IsAccountOf json_texts history next

-- ---- what is written

abbrev pub response_text : Response → List ℕ
response_text (replied reply) = json_texts.of_reply reply
response_text (printed text) = text

-- a reply or a text as a line
abbrev pub response_line : Response → List ℕ
response_line response = response_text response ++ 10 ∷ []

abbrev pub response_lines : List Response → List ℕ
response_lines responses = flat_map response_line responses

-- Each line has a reply or a text, and these were written but for some last bytes; this is said of them.
pub record AreAnswered (says : List Response → Type 0) (held_old held_new : Option (List ℕ)) (lines : List (List ℕ)) (unwritten : List ℕ) : Type 0 where
  pub responses : List Response
  pub each : length responses ≡ length lines
  pub bytes : List ℕ
  pub reported : bytes ++ unwritten ≡ response_lines responses
  pub written : Appends held_old held_new bytes
  pub run : says responses

-- The lines were answered in turn, each over the book that the one before it left.
abbrev pub IsReplayed : {B : Type 0} → Ghosts B → B → B → Option (List ℕ) → Option (List ℕ) → List (List ℕ) → List ℕ → Type 0
IsReplayed book before after held_old held_new lines unwritten =
    AreAnswered (AnswersAll LineStep line_message book before after lines) held_old held_new lines unwritten

-- The lines were answered in turn by a shop in which nothing was done yet, and under which no store can fail.
abbrev pub IsReplayedFresh : Option (List ℕ) → Option (List ℕ) → List (List ℕ) → List ℕ → Type 0
IsReplayedFresh held_old held_new lines unwritten = AreAnswered (IsFromFresh LineStep line_message lines) held_old held_new lines unwritten
