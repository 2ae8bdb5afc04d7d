-- Connections that were served, one request after another.
use Rattle.std.specs.Prelude.{◌≡◌, ◌≢◌, ◌⊎◌, ◌<◌, ◌≤◌, ◌+◌, ℕ, List, [], ◌∷◌, ◌++◌, length, map, Bool, true, false, Option, Some, None, IfSome, Result}
use Rattle.std.specs.List.{flat_map}
use Rattle.shop_desk.specs.Faults.{CountsUp, StoreFailed}
use Rattle.shop_desk.specs.Handled.{HasAccount}
use Rattle.shop_records.specs.Content.{Content, entry_count}
use Rattle.shop_records.specs.Elements.{IsIn}
use Rattle.shop_records.specs.WellFormed.{IsWellFormed}
use Rattle.shop_records.specs.declared.messages.Message.{Message as ShopMessage}
use Rattle.shop_records.specs.declared.messages.Reply.{Reply}
use Rattle.shop_records.specs.declared.messages.Reply.TheVariants.{Refused}
use Rattle.shop_records.specs.declared.refusals.Refusal.{Refusal}
use Rattle.shop_records.specs.declared.refusals.Refusal.TheVariants.{StoreFault}
use Rattle.shop_request.specs.Guards.{HasVerdict}
use Rattle.shop_request.specs.declared.guards.Verdict.{Verdict}
use Rattle.shop_request.specs.declared.guards.Verdict.TheVariants.{Routed}
use Rattle.shop_request.specs.Requests.{ParseResult, silent, faulty, asking, ParsesTo}
use Rattle.shop_request.specs.declared.routes.Route.{Route}
use Rattle.shop_request.specs.declared.routes.Route.TheVariants.{Message, Plans, Backup}
use Rattle.shop_planning.specs.Queries.{IsInstance}
use Rattle.shop_planning.specs.declared.instance.PlanInstance.{PlanInstance}
use Rattle.shop_plans.specs.declared.queries.PlansQuery.{PlansQuery}
use Rattle.shop_forms.specs.Forms.{json_texts}
use Rattle.shop_serve.specs.declared.faults.ServeFault.{ServeFault}
use Rattle.shop_serve.specs.declared.faults.ServeFault.TheVariants.{NoMemory, Port, Moved}
use Rattle.shop_book.specs.declared.books.Book.{Ghosts}
use Rattle.shop_book.specs.Kept.{OnContent, Unchanged}
use Rattle.shop_wire.specs.Replays.{ExchangesLead}
use Rattle.shop_wire.specs.AnswerBytes.{Response, answer_bytes, backup_answer, replied, bytes_of}
use Rattle.shop_wire.specs.Serves.{HandlesInputAt, ParsedStep, exchanged, body_plans, IsServed}
use Rattle.shop_serve.specs.declared.serving.TheConstants.{MAX_SERVED}
use Rattle.shop_serve.specs.Sites.{is_health, own_bytes}
use Rattle.shop_serve.specs.declared.sites.Site.{Site}
use Rattle.shop_serve.specs.Times.{Times, Copies, Stands, Reports, ReportsNone}
use Rattle.std.specs.declared.time.Instant.{Instant}

-- What is done with a request: it goes to its route, with this parse, and this is reported; or the site answers by itself, and may
-- report how many entries there are; or its body is a query, and this is what it asks of the content, which is searched; or it asks for a backup, by this body, and
-- this came of it.
pub data Handling : Type 0 where
  routed : ParseResult → Response → Handling
  checked : Verdict → Option ℕ → Handling
  begun : List ℕ → PlansQuery → PlanInstance → Handling
  copied : List ℕ → Result ℕ Refusal → Handling

-- whether a backup is asked for
abbrev pub is_backup : Route → Bool
is_backup Backup = true
is_backup _ = false

abbrev pub asks_backup : ParseResult → Bool
asks_backup silent = false
asks_backup (faulty f) = false
asks_backup (asking route text) = is_backup route

-- whether a message came
abbrev pub is_message : Route → Bool
is_message Message = true
is_message _ = false

abbrev pub asks_message : ParseResult → Bool
asks_message silent = false
asks_message (faulty f) = false
asks_message (asking route text) = is_message route

-- What was served: the bytes that came of a connection, what was done, and the bytes that were made of it.
pub record ServedRequest : Type 0 where
  pub input : List ℕ
  pub handling : Handling
  pub answer : List ℕ

-- By its head the request goes to its route, and the answer is that of its parse but for some last bytes; or it doesn't, and
-- the answer is the site's own. A query is asked at its route, and has no answer yet. A backup is asked for at its route,
-- and what came of it is reported.
abbrev pub IsHandling : Site → (input answer : List ℕ) → Handling → Type 0
IsHandling site input answer (routed parsed response) =
    HasVerdict site.guard input Routed × ParsesTo input parsed
    × ((unwritten : List ℕ) × (answer ++ unwritten ≡ bytes_of parsed response))
IsHandling site input answer (checked r entries) = HasVerdict site.guard input r × (r ≢ Routed) × (answer ≡ own_bytes site entries r)
IsHandling site input answer (begun body query instance) =
    HasVerdict site.guard input Routed × ParsesTo input (asking Plans body) × (body_plans body ≡ Some query) × (answer ≡ [])
IsHandling site input answer (copied body outcome) =
    HasVerdict site.guard input Routed × ParsesTo input (asking Backup body) × (answer ≡ answer_bytes (backup_answer outcome))

-- some bytes came, and this is what was done with them
abbrev pub IsServedRequest : Site → ServedRequest → Type 0
IsServedRequest site t = (0 < length t.input) × IsHandling site t.input t.answer t.handling

-- so many entries are in a content, where a number is reported
abbrev pub IsCount : Content → Option ℕ → Type 0
IsCount content entries = IfSome entries (λ count. count ≡ entry_count content)

-- What the site answers by itself does nothing, and a query and a backup neither. What a query asks is asked of the content as
-- it is then, and the entries that are reported are those of it.
abbrev pub HandlingStep : Content → Handling → Content → Type 0
HandlingStep old (routed parsed response) new = ParsedStep old parsed response new
HandlingStep old (checked r entries) new = (new ≡ old) × IsCount old entries
HandlingStep old (begun body query instance) new = (new ≡ old) × IsInstance old query instance
HandlingStep old (copied body outcome) new = new ≡ old

-- the message that was read, with its reply
abbrev pub exchange_of : Handling → List (ShopMessage × Reply)
exchange_of (routed parsed response) = exchanged parsed response
exchange_of (checked r entries) = []
exchange_of (begun body query instance) = []
exchange_of (copied body outcome) = []

-- the messages among them, each with its reply
abbrev pub exchanges : List ServedRequest → List (ShopMessage × Reply)
exchanges = flat_map (λ t. exchange_of t.handling)

-- a failed store is reported; a backup that wasn't made reports nothing of the store
abbrev pub ReportsFailure : Handling → Type 0
ReportsFailure (routed parsed response) = response ≡ replied (Refused StoreFault)
ReportsFailure (checked r entries) = ⊥
ReportsFailure (begun body query instance) = ⊥
ReportsFailure (copied body outcome) = ⊥

-- One that was served leads from one book, which held old, to the next, which holds new. A crash leaves what it may leave after the
-- message, if there was one. A failed store is reported only where it failed at this very one.
pub record IsServedOnce {B : Type 0} (book : Ghosts B) (before after : B) (old : Content) (handling : Handling) (new : Content) : Type 0 where
  pub step : HandlingStep old handling new
  pub clean_disk : book.has_clean_disk after
  pub held : book.holds after new
  pub crash : ExchangesLead book before after old (exchange_of handling) new
  pub failures : CountsUp (book.failed before) (book.failed after)
  pub store_fault_justified : ReportsFailure handling → StoreFailed (book.failed before) (book.failed after)

-- one after another, each of which came as some bytes, over the book that the one before it left
abbrev pub ServedInOrder : Site → {B : Type 0} → Ghosts B → B → Content → List ServedRequest → B → Content → Type 0
ServedInOrder site book before old [] after new = (after ≡ before) × (new ≡ old)
ServedInOrder site {B} book before old (t ∷ ts) after new =
    (mid : B) × (m : Content) × IsServedRequest site t × IsServedOnce book before mid old t.handling m × ServedInOrder site book mid m ts after new

-- a failed store is reported only where it failed meanwhile
abbrev pub ReportOfFailures : List ServedRequest → ℕ → ℕ → Type 0
ReportOfFailures served before after = (t : ServedRequest) → IsIn t served → ReportsFailure t.handling → StoreFailed before after

-- The book held old and holds next, and at most so many requests led from one to the other, over a chain of books. A crash leaves
-- what it may leave after the messages among them. A failed store was reported about only where it failed. Where a history gives old, one
-- with each message that was accepted, once, gives next, and this is its account.
pub record HasServedRequests (site : Site) {B : Type 0} (book : Ghosts B) (before after : B) (old : Content) (count : ℕ) : Type 0 where
  pub served : List ServedRequest
  pub few : length served ≤ count
  pub next : Content
  pub run : ServedInOrder site book before old served after next
  pub held : book.holds after next
  pub well_formed : IsWellFormed json_texts next
  pub crash : ExchangesLead book before after old (exchanges served) next
  pub failures : CountsUp (book.failed before) (book.failed after)
  pub store_fault_justified : ReportOfFailures served (book.failed before) (book.failed after)
  pub account : HasAccount json_texts old (map (λ e. e.0) (exchanges served)) (map (λ e. e.1) (exchanges served)) next

-- at most so many requests were served by a book: each well-formed content that one with a clean disk held led to one that it
-- holds now
abbrev pub HasServed : Site → {B : Type 0} → Ghosts B → B → B → ℕ → Type 0
HasServed site book before after count = OnContent book before after (λ m. IsWellFormed json_texts m → HasServedRequests site book before after m count)

-- a number fell from one to another, and at most as many requests were served as it fell by
abbrev pub Advances : Site → {B : Type 0} → Ghosts B → B → B → ℕ → ℕ → Type 0
Advances site book before after from to = (n : ℕ) × (n + to ≤ from) × HasServed site book before after n

-- as many connections as a limit says; without one, more than come in the life of a machine
abbrev pub most_served : Option ℕ → ℕ
most_served (Some limit) = limit
most_served None = MAX_SERVED

-- memory ran out before the first connection, or at most as many as the limit says were served until the port failed, or the
-- store's names led to other files
abbrev pub IsUnserved : Site → {B : Type 0} → Ghosts B → B → B → ℕ → ServeFault → Type 0
IsUnserved site book before after limit NoMemory = after ≡ before
IsUnserved site book before after limit Port = HasServed site book before after limit
IsUnserved site book before after limit Moved = HasServed site book before after limit

-- a backup is asked for, at its route
abbrev pub AsksBackup : Site → List ℕ → Type 0
AsksBackup site received = HasVerdict site.guard received Routed × ((body : List ℕ) × ParsesTo received (asking Backup body))

-- something else is
abbrev pub AsksElse : List ℕ → Type 0
AsksElse received = (parsed : ParseResult) × ParsesTo received parsed × (asks_backup parsed ≡ false)

-- A book was asked how many entries it has, and is left as it was, but that it counts its failures. Where a number is reported, the
-- content that it held has so many.
abbrev pub IsCounted : {B : Type 0} → Ghosts B → B → B → Option ℕ → Type 0
IsCounted book before after entries = Unchanged book CountsUp before after × OnContent book before after (λ m. IsCount m entries)

-- a book is the same, but where the state of the server is asked for: then it was asked how many entries it has
abbrev pub IsAskedFor : {B : Type 0} → Ghosts B → B → B → Verdict → Option ℕ → Type 0
IsAskedFor book before after r entries = (is_health r ≡ false → after ≡ before) × IsCounted book before after entries

-- The whole answer to some bytes that ask for no backup: by their head they went to their route, and that is the answer to what they
-- stand for; or the site answered by itself, and the book is the same but for what its state was asked for.
abbrev pub IsAnsweredAlone : Site → {B : Type 0} → Ghosts B → B → B → (received answer : List ℕ) → Type 0
IsAnsweredAlone site book before after received answer =
    (HasVerdict site.guard received Routed × IsServed book before after (Some received) (Some []) (Some answer) [] × AsksElse received)
    ⊎ ((r : Verdict) × (entries : Option ℕ) × HasVerdict site.guard received r × (r ≢ Routed) × (answer ≡ own_bytes site entries r)
    × IsAskedFor book before after r entries)

-- the whole answer to some bytes that ask for a backup, of which this came
abbrev pub IsBackupAnswer : Site → (received answer : List ℕ) → Result ℕ Refusal → Type 0
IsBackupAnswer site received answer outcome = AsksBackup site received × (answer ≡ answer_bytes (backup_answer outcome))

-- the whole answer to some bytes; a backup changes no book
abbrev pub IsAnswered : Site → {B : Type 0} → Ghosts B → B → B → (received answer : List ℕ) → Type 0
IsAnswered site book before after received answer =
    IsAnsweredAlone site book before after received answer ⊎ ((outcome : Result ℕ Refusal) × IsBackupAnswer site received answer outcome × (after ≡ before))

-- the same, and what came of a backup that it reports came of one that was made meanwhile
abbrev pub IsAnsweredMeanwhile : Site → {B : Type 0} → Ghosts B → B → B → (seen between : Times) → (received answer : List ℕ) → Type 0
IsAnsweredMeanwhile site book before after seen between received answer =
    (IsAnsweredAlone site book before after received answer × ReportsNone seen between)
    ⊎ ((outcome : Result ℕ Refusal) × IsBackupAnswer site received answer outcome × (after ≡ before) × Copies seen between outcome)

-- The same while the time stood still; and then it was reported, from which it goes on.
abbrev pub IsAnsweredThen : Site → {B : Type 0} → Ghosts B → B → B → (seen seeing : Times) → Instant → (received answer : List ℕ) → Type 0
IsAnsweredThen site book before after seen seeing now received answer =
    (still : Times) × Stands seen still × (between : Times) × IsAnsweredMeanwhile site book before after still between received answer × Reports between seeing now

-- Where by its head an input goes to its route, the message that it is, if it is one, was handled as one that was given this time.
abbrev pub HandlesRequestAt : Site → {B : Type 0} → Ghosts B → B → B → (at : ℕ) → (input : List ℕ) → Type 0
HandlesRequestAt site book before after at input =
    HasVerdict site.guard input Routed → (parsed : ParseResult) → ParsesTo input parsed → HandlesInputAt book before after at parsed
