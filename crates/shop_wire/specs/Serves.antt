-- What a request does to a content, and what is reported and written.
use Rattle.std.specs.Prelude.{◌≡◌, ◌⊎◌, ◌&&◌, ◌==◌, ℕ, Bool, true, false, List, ◌++◌, map, nat_le, bytes_eq, ⊤, Option, Some, None, Result, Ok, Err, MatchOption, option_map, option_and_then, IfSome, if◌then◌else◌}
use Rattle.std.specs.Fmt.{decimal}
use Rattle.std.specs.List.{after_first, before_first}
use Rattle.std.specs.Str.{is_utf8}
use Rattle.std.specs.Str.Parse.{digits_value}
use Rattle.std.specs.Io.KnownBytes.{Appends}
use Rattle.cut_measure.specs.declared.ranges.TheConstants.{MAX_NUMBERS}
use Rattle.cut_measure.specs.Codes.{code_of}
use Rattle.cut_measure.specs.Names.{Name, spelled_name}
use Rattle.shop_records.specs.declared.journal.Subject.TheVariants as subject
use Rattle.shop_records.specs.declared.pieces.PieceSource.TheVariants as source
use Rattle.shop_records.specs.declared.refusals.Refusal.{Refusal}
use Rattle.shop_records.specs.declared.refusals.Refusal.TheVariants.{NoMemory, StoreFault}
use Rattle.shop_records.specs.declared.messages.Message.{Message as MessageOf}
use Rattle.shop_records.specs.declared.messages.Query.{Query}
use Rattle.shop_records.specs.declared.messages.Query.TheVariants as query
use Rattle.shop_records.specs.declared.messages.Reply.{Reply}
use Rattle.shop_records.specs.declared.messages.Reply.TheVariants.{Refused}
use Rattle.shop_records.specs.Content.{Content}
use Rattle.shop_machine.specs.Machine.{Step, StepAt}
use Rattle.shop_answers.specs.Queries.{Answers}
use Rattle.shop_records.specs.WellFormed.{IsWellFormed}
use Rattle.shop_forms.specs.Forms.{query_of, json_texts}
use Rattle.shop_plans.specs.declared.queries.PlansQuery.{PlansQuery}
use Rattle.shop_plans.specs.Queries.{plans_query_of}
use Rattle.shop_planning.specs.declared.instance.PlanInstance.{PlanInstance}
use Rattle.shop_planning.specs.Queries.{IsInstance}
use Rattle.shop_book.specs.declared.books.Book.{Ghosts}
use Rattle.shop_book.specs.Kept.{OnContent, Unchanged}
use Rattle.shop_desk.specs.Faults.{StoreFailed}
use Rattle.shop_desk.specs.Handled.{HasAccount}
use Rattle.shop_text.specs.Tickets.{ticket_of}
use Rattle.shop_text.specs.Yields.{yield_of}
use Rattle.shop_request.specs.declared.routes.Route.{Route}
use Rattle.shop_request.specs.declared.routes.Route.TheVariants.{Message, Plan, Plans, Bound, Totals, Rack, Trace, Demand, Ticket, Yield, Materials, Parts, PartsAfter, Demands, DemandsOf, Orders, OrdersAfter, OrderLines, Jobs, Job, Terminal, Shop, History, OrderStory, JobStory, PartStory, OrderPieces, OrderPiecesAfter, BatchPieces, BatchPiecesAfter, UnitPieces, UnitPiecesAfter, Steps}
use Rattle.shop_request.specs.Routes.{takes_body}
use Rattle.shop_request.specs.Requests.{ParseResult, silent, faulty, asking, ParsesTo}
use Rattle.shop_wire.specs.Replays.{ExchangesLead, data_of, line_message, IsNoMessage, IsReplied, PlansStep, with_reply}
use Rattle.shop_wire.specs.AnswerBytes.{Response, replied, printed, bytes_of}

-- ---- what is asked for

-- the number of a range that a text is, in digits without leading zeros
abbrev pub ranged : (least most : ℕ) → List ℕ → Option ℕ
ranged least most text =
    if nat_le least (digits_value 10 text) && nat_le (digits_value 10 text) most && bytes_eq (decimal (digits_value 10 text)) text then Some (digits_value 10 text) else None

-- one from 1 to 2147483647
abbrev pub numbered : List ℕ → Option ℕ
numbered text = ranged 1 MAX_NUMBERS text

-- one after which numbers are asked for: from 0 to 2147483647
abbrev pub number_before : List ℕ → Option ℕ
number_before text = ranged 0 MAX_NUMBERS text

-- a terminal: from 0 to 4294967295
abbrev pub terminal_of : List ℕ → Option ℕ
terminal_of text = ranged 0 4294967295 text

-- a node: from 0 to 4294967295
abbrev pub node_of : List ℕ → Option ℕ
node_of text = ranged 0 4294967295 text

-- the code that bytes are
abbrev pub code_at : List ℕ → Option (List ℕ)
code_at part = if is_utf8 part then code_of part else None

-- the part that bytes name
abbrev pub name_at : List ℕ → Option Name
name_at part = if is_utf8 part then spelled_name part else None

-- what stands in front of the first slash, and after it
abbrev pub before_slash : List ℕ → List ℕ
before_slash part = before_first (λ b. b == 47) part

abbrev pub after_slash : List ℕ → List ℕ
after_slash part = after_first (λ b. b == 47) part

-- the parts of a material after a name: the bytes are both, with a slash between
abbrev pub parts_asked : List ℕ → Option Query
parts_asked text =
    option_and_then (λ code. option_map (λ name. query.Parts code (Some name)) (spelled_name (after_slash text))) (code_of (before_slash text))

-- the open demands after a number, of a material: the bytes are both, with a slash between
abbrev pub demands_asked : List ℕ → Option Query
demands_asked text =
    option_and_then (λ after. option_map (λ code. query.Demands after (Some code)) (code_of (after_slash text))) (number_before (before_slash text))

-- the entries about an order after a number: the bytes are its code and the number, with a slash between
abbrev pub order_story_asked : List ℕ → Option Query
order_story_asked text =
    option_and_then (λ code. option_map (λ after. query.Story (subject.Order code) after) (number_before (after_slash text))) (code_of (before_slash text))

-- those about a job, by its number
abbrev pub job_story_asked : List ℕ → Option Query
job_story_asked text =
    option_and_then (λ job. option_map (λ after. query.Story (subject.Job job) after) (number_before (after_slash text))) (numbered (before_slash text))

-- those about a part: its act, its node and the number, with slashes between
abbrev pub part_story_asked : List ℕ → Option Query
part_story_asked text =
    option_and_then (λ act. option_and_then (λ node. option_map (λ after. query.Story (subject.Part (record { act = act; node = node })) after) (number_before (after_slash (after_slash text))))
    (node_of (before_slash (after_slash text)))) (numbered (before_slash text))

-- the pieces of an order after a name: the bytes are both, with a slash between
abbrev pub order_pieces_asked : List ℕ → Option Query
order_pieces_asked text =
    option_and_then (λ code. option_map (λ name. query.Pieces (source.Order code) (Some name)) (spelled_name (after_slash text))) (code_of (before_slash text))

-- those of a batch
abbrev pub batch_pieces_asked : List ℕ → Option Query
batch_pieces_asked text =
    option_and_then (λ code. option_map (λ name. query.Pieces (source.Batch code) (Some name)) (spelled_name (after_slash text))) (code_of (before_slash text))

-- those of a unit, by its act, its node and the name
abbrev pub unit_pieces_asked : List ℕ → Option Query
unit_pieces_asked text =
    option_and_then (λ act. option_and_then (λ node. option_map (λ name. query.Pieces (source.Unit (record { act = act; node = node })) (Some name)) (spelled_name (after_slash (after_slash text))))
    (node_of (before_slash (after_slash text)))) (numbered (before_slash text))

abbrev pub is_plan : Route → Bool
is_plan Plan = true
is_plan _ = false

abbrev pub is_bound : Route → Bool
is_bound Bound = true
is_bound _ = false

-- whether a query is the one of a route
abbrev pub is_of : Route → Query → Bool
is_of route (query.Plan part demands step) = is_plan route
is_of route (query.Bound material w h demands step) = is_bound route
is_of route _ = false

-- the query of a body, where it is the route's
abbrev pub body_query : Route → List ℕ → Option Query
body_query route body = option_and_then (λ d. option_and_then (λ q. if is_of route q then Some q else None) (query_of d)) (data_of body)

-- the `plans` query that a body is
abbrev pub body_plans : List ℕ → Option PlansQuery
body_plans body = option_and_then plans_query_of (data_of body)

-- the query that a path says
abbrev pub path_query : Route → List ℕ → Option Query
path_query Totals part = option_map (λ code. query.Totals code) (code_at part)
path_query Rack part = option_map (λ code. query.Rack code) (code_at part)
path_query Trace part = option_map (λ name. query.Trace name) (name_at part)
path_query Demand part = option_map (λ number. query.Demand number) (numbered part)
path_query Materials part = Some query.Materials
path_query Parts part = option_map (λ code. query.Parts code None) (code_at part)
path_query PartsAfter part = if is_utf8 part then parts_asked part else None
path_query Demands part = option_map (λ after. query.Demands after None) (number_before part)
path_query DemandsOf part = if is_utf8 part then demands_asked part else None
path_query Orders part = Some (query.Orders None)
path_query OrdersAfter part = option_map (λ code. query.Orders (Some code)) (code_at part)
path_query OrderLines part = option_map (λ code. query.Lines code) (code_at part)
path_query Jobs part = option_map (λ after. query.Jobs after) (number_before part)
path_query Job part = option_map (λ number. query.Job number) (numbered part)
path_query Terminal part = option_map (λ terminal. query.Terminal terminal) (terminal_of part)
path_query Shop part = Some query.Shop
path_query History part = option_map (λ after. query.History after) (number_before part)
path_query OrderStory part = if is_utf8 part then order_story_asked part else None
path_query JobStory part = if is_utf8 part then job_story_asked part else None
path_query PartStory part = if is_utf8 part then part_story_asked part else None
path_query OrderPieces part = option_map (λ code. query.Pieces (source.Order code) None) (code_at part)
path_query OrderPiecesAfter part = if is_utf8 part then order_pieces_asked part else None
path_query BatchPieces part = option_map (λ code. query.Pieces (source.Batch code) None) (code_at part)
path_query BatchPiecesAfter part = if is_utf8 part then batch_pieces_asked part else None
path_query UnitPieces part = option_map (λ name. query.Pieces (source.Unit name) None) (name_at part)
path_query UnitPiecesAfter part = if is_utf8 part then unit_pieces_asked part else None
path_query Steps part = option_map (λ number. query.Steps number) (numbered part)
path_query _ part = None

-- the query that is asked
abbrev pub asked_at : Route → List ℕ → Option Query
asked_at route text = if takes_body route then body_query route text else path_query route text

-- the text that a path asks for, or its refusal
abbrev pub text_at : Content → Route → List ℕ → Option (Result (List ℕ) Refusal)
text_at m Ticket part = option_map (ticket_of m) (numbered part)
text_at m Yield part = option_map (yield_of m) (code_at part)
text_at m _ part = None

-- ---- what is reported

-- a message is a step of the machine, and anything else is refused
abbrev pub MessageStep : Content → List ℕ → Reply → Content → Type 0
MessageStep old body reply new = MatchOption (line_message body) (IsNoMessage old reply new) (λ message. Step json_texts old message reply new)

-- a query is answered, and anything else is refused
abbrev pub AskStep : Content → Option Query → Reply → Content → Type 0
AskStep old asked reply new = MatchOption asked (IsNoMessage old reply new) (λ q. Answers old q reply × (new ≡ old))

-- what has to be said is printed, or its refusal is reported, or a failure
abbrev pub ReportsText : Result (List ℕ) Refusal → Response → Type 0
ReportsText said (printed text) = said ≡ Ok text
ReportsText said (replied reply) = (refusal : Refusal) × (reply ≡ Refused refusal) × ((said ≡ Err refusal) ⊎ ((refusal ≡ NoMemory) ⊎ (refusal ≡ StoreFault)))

-- a text is printed, and where none is asked for that is refused
abbrev pub PrintStep : Content → Option (Result (List ℕ) Refusal) → Response → Content → Type 0
PrintStep old asked response new = MatchOption asked (IsReplied response (λ reply. IsNoMessage old reply new)) (λ said. ReportsText said response × (new ≡ old))

abbrev pub RequestStep : Content → Route → List ℕ → Response → Content → Type 0
RequestStep old Message text response new = IsReplied response (λ reply. MessageStep old text reply new)
RequestStep old Plans text response new = PlansStep old (body_plans text) response new
RequestStep old Ticket text response new = PrintStep old (text_at old Ticket text) response new
RequestStep old Yield text response new = PrintStep old (text_at old Yield text) response new
RequestStep old route text response new = IsReplied response (λ reply. AskStep old (asked_at route text) reply new)

-- only a request does anything
abbrev pub ParsedStep : Content → ParseResult → Response → Content → Type 0
ParsedStep old silent response new = new ≡ old
ParsedStep old (faulty f) response new = new ≡ old
ParsedStep old (asking route text) response new = RequestStep old route text response new

-- ---- what was served

-- the message that an input is
abbrev pub parse_message : ParseResult → Option MessageOf
parse_message (asking Message body) = line_message body
parse_message _ = None

-- a message, with its reply
abbrev pub exchanged : ParseResult → Response → List (MessageOf × Reply)
exchanged parsed response = with_reply (parse_message parsed) response

-- The book held old and holds next, a step later. A crash leaves what it may leave after the message, if there was one. A
-- failed store is reported only where it failed. Where a history gives old, one with the message, if it was accepted and isn't a
-- repeat, gives next, and this is its account.
pub record HasServedInput {B : Type 0} (book : Ghosts B) (before after : B) (old : Content) (parsed : ParseResult) (response : Response) : Type 0 where
  pub next : Content
  pub step : ParsedStep old parsed response next
  pub held : book.holds after next
  pub well_formed : IsWellFormed json_texts next
  pub crash : ExchangesLead book before after old (exchanged parsed response) next
  pub store_fault_justified : response ≡ replied (Refused StoreFault) → StoreFailed (book.failed before) (book.failed after)
  pub account : HasAccount json_texts old (map (λ e. e.0) (exchanged parsed response)) (map (λ e. e.1) (exchanged parsed response)) next

-- A message, where one came, was handled as one that was given this time: the book holds what such a step leaves of old.
abbrev pub IsInputHandledAt : {B : Type 0} → Ghosts B → B → (at : ℕ) → Content → Option MessageOf → Type 0
IsInputHandledAt book after at old came =
    MatchOption came ⊤ (λ message. (reply : Reply) × (next : Content) × StepAt json_texts at old message reply next × book.holds after next)

-- the same of each well-formed content that a book with a clean disk held before, and of the message that an input is
abbrev pub HandlesInputAt : {B : Type 0} → Ghosts B → B → B → (at : ℕ) → ParseResult → Type 0
HandlesInputAt book before after at parsed =
    OnContent book before after (λ m. IsWellFormed json_texts m → IsInputHandledAt book after at m (parse_message parsed))

-- An input of this parse was served, and the answer written but for some last bytes; this is said of what was reported.
pub record IsAnswerWritten (says : Response → Type 0) (held_old held_new : Option (List ℕ)) (parsed : ParseResult) (unwritten : List ℕ) : Type 0 where
  pub response : Response
  pub bytes : List ℕ
  pub reported : bytes ++ unwritten ≡ bytes_of parsed response
  pub written : Appends held_old held_new bytes
  pub run : says response

-- no message came, or it was refused
abbrev pub DoesNothing : ParseResult → Response → Type 0
DoesNothing parsed response = (parse_message parsed ≡ None) ⊎ ((refusal : Refusal) × (response ≡ replied (Refused refusal)))

-- Where no message came or it was refused, a book with a clean disk holds each content that it held, whether a history gives it or not.
abbrev pub KeepsElse : {B : Type 0} → Ghosts B → B → B → ParseResult → Response → Type 0
KeepsElse book before after parsed response = OnContent book before after (λ m. DoesNothing parsed response → book.holds after m)

-- The parse was served by a book: each well-formed content that a book with a clean disk held before led to one that it holds
-- now; and where no message was accepted each content, well-formed or not, is held still.
pub record IsServedFor {B : Type 0} (book : Ghosts B) (before after : B) (parsed : ParseResult) (response : Response) : Type 0 where
  pub run : OnContent book before after (λ m. IsWellFormed json_texts m → HasServedInput book before after m parsed response)
  pub keeps : KeepsElse book before after parsed response

abbrev pub IsServedAs : {B : Type 0} → Ghosts B → B → B → Option (List ℕ) → Option (List ℕ) → ParseResult → List ℕ → Type 0
IsServedAs book before after held_old held_new parsed unwritten =
    IsAnswerWritten (IsServedFor book before after parsed) held_old held_new parsed unwritten

-- What an input stands for was served.
abbrev pub IsServed : {B : Type 0} → Ghosts B → B → B → Option (List ℕ) → Option (List ℕ) → Option (List ℕ) → List ℕ → Type 0
IsServed book before after left held_old held_new unwritten =
    (parsed : ParseResult) × IfSome left (λ input. ParsesTo input parsed) × IsServedAs book before after held_old held_new parsed unwritten

-- the message that an input is, where it is one, was handled as one that was given this time
abbrev pub HandlesReadAt : {B : Type 0} → Ghosts B → B → B → (at : ℕ) → (left : Option (List ℕ)) → Type 0
HandlesReadAt book before after at left =
    (parsed : ParseResult) × IfSome left (λ input. ParsesTo input parsed) × HandlesInputAt book before after at parsed

-- The `plans` query that an input asks at /plans, for whoever searches it: a book with a clean disk holds what it
-- held, each such content was asked it, and the book is left as it was.
pub record IsBegun {B : Type 0} (book : Ghosts B) (before after : B) (left : Option (List ℕ)) (instance : PlanInstance) : Type 0 where
  pub body : List ℕ
  pub query : PlansQuery
  pub parsed : IfSome left (λ input. ParsesTo input (asking Plans body))
  pub asks : body_plans body ≡ Some query
  pub run : OnContent book before after (λ m. IsWellFormed json_texts m → book.holds after m × IsInstance m query instance)
  pub keeps : Unchanged book (λ old new. new ≡ old) before after
