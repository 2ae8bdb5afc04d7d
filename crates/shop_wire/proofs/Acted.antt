-- The response to a request, and what the request did.
use Rattle.std.proofs.Common.{◌≡◌, ◌≢◌, ℕ, ◌+◌, ◌⊎◌, arith, nat_lt, inl, inr, List, map, Bool, true, false, Option, Some, None, Result, Ok, Err, refl, sym, ap, subst, ◌∙◌}
use Rattle.std.specs.Prelude.{IfSome, MatchOption, option_map, ⊤, if◌then◌else◌}
use Rattle.std.specs.declared.string.String.{String}
use Rattle.shop_records.specs.declared.messages.Message.{Message as MessageOf}
use Rattle.shop_records.specs.declared.messages.Query.{Query}
use Rattle.shop_records.specs.declared.messages.Reply.{Reply}
use Rattle.shop_records.specs.declared.messages.Reply.TheVariants.{Refused}
use Rattle.shop_records.specs.declared.refusals.Refusal.{Refusal}
use Rattle.shop_records.specs.declared.refusals.Refusal.TheVariants.{BadMessage, NoMemory, StoreFault}
use Rattle.shop_records.specs.Messages.{IsMessage, message_id_of, refusal_in}
use Rattle.shop_records.specs.Content.{Content, kept_at}
use Rattle.shop_machine.specs.Machine.{Step, StepAt}
use Rattle.shop_answers.specs.Queries.{Answers}
use Rattle.shop_records.specs.WellFormed.{IsWellFormed}
use Rattle.shop_forms.specs.Forms.{json_texts}
use Rattle.shop_book.specs.declared.books.Book.{Ghosts}
use Rattle.shop_book.specs.declared.books.TheConstants.{MAX_FAILURES}
use Rattle.shop_book.specs.Failures.{one_more_failure}
use Rattle.shop_desk.specs.Faults.{CountsUp, StoreFailed}
use Rattle.shop_desk.specs.Handled.{HasAccount, CrashStatesAfter, RefusalKeeps}
use Rattle.shop_desk.proofs.Justified.{up_reply}
use Rattle.shop_desk.proofs.Accounts.{account_same, account_step}
use Rattle.shop_text.specs.Printing.{CountsRefusal, IsFailure, IsTextMade}
use Rattle.shop_text.specs.Tickets.{ticket_of}
use Rattle.shop_text.specs.Yields.{yield_of}
use Rattle.shop_text.proofs.ReportedTickets.{ticket_reported, report_response}
use Rattle.shop_request.specs.declared.routes.Route.{Route}
use Rattle.shop_request.specs.declared.routes.Route.TheVariants.{Message, Plans, Ticket, Yield}
use Rattle.shop_request.specs.Requests.{asking}
use Rattle.shop_wire.specs.AnswerBytes.{Response, replied, printed}
use Rattle.shop_wire.specs.Replays.{ExchangesLead, IsNoMessage, PlansStep, line_message, with_reply}
use Rattle.shop_wire.specs.Serves.{AskStep, HasServedInput, IsInputHandledAt, KeepsElse, MessageStep, PrintStep, ReportsText, asked_at, body_plans, code_at, numbered, parse_message, text_at}
use Rattle.shop_wire.specs.Responses.{IsReportedOf, IsUnread, PrintsCounted, ReportsCounted}
use Rattle.shop_wire.proofs.Answered.{reported_reply, unread_not_store}
use Rattle.shop_wire.proofs.Crashes.{leads_one, leads_unread, no_memory_step}

-- ---- messages

-- lack of memory may be answered to any body
message_no_memory : (m : Content) (o : Option MessageOf) → MatchOption o (IsNoMessage m (Refused NoMemory) m) (λ message. Step json_texts m message (Refused NoMemory) m)
message_no_memory m None = ((λ some. absurd (some refl)), refl)
message_no_memory m (Some message) = no_memory_step json_texts m message (kept_at m (message_id_of message))

message_unread : (m : Content) (body : List ℕ) (refusal : Refusal) → IsUnread refusal (line_message body) → MessageStep m body (Refused refusal) m
message_unread m body refusal (inl is) = subst (λ r. MessageStep m body (Refused r) m) (sym is) (message_no_memory m (line_message body))
message_unread m body refusal (inr why) =
    subst (λ (o : Option MessageOf). MatchOption o (IsNoMessage m (Refused refusal) m) (λ message. Step json_texts m message (Refused refusal) m)) (sym why.1) ((λ _. ap Refused why.0), refl)

refused_same : (refusal : Refusal) → Refused refusal ≡ Refused StoreFault → refusal ≡ StoreFault
refused_same refusal e = cc

-- ---- texts

reports_text : (said : Result (List ℕ) Refusal) (response : Response) (a b : ℕ) → ReportsCounted said response a b → ReportsText said response
reports_text said (printed text) a b h = h
reports_text said (replied reply) a b h = (h.0, h.1, why h.2)
  where
    why : (said ≡ Err h.0) ⊎ IsFailure h.0 a b → (said ≡ Err h.0) ⊎ ((h.0 ≡ NoMemory) ⊎ (h.0 ≡ StoreFault))
    why (inl is) = inl is
    why (inr (inl p)) = inr (inl p.0)
    why (inr (inr p)) = inr (inr p.0)

printed_step : (m : Content) (o : Option (Result (List ℕ) Refusal)) (response : Response) (a b : ℕ) → PrintsCounted o response a b → PrintStep m o response m
printed_step m None response a b is = subst (λ t. PrintStep m None t m) (sym is) ((λ _. refl), refl)
printed_step m (Some said) response a b h = (reports_text said response a b h, refl)

-- one more failure
failed_by : (a b : ℕ) (t : Bool) → nat_lt a MAX_FAILURES ≡ t → b ≡ (if t then a + 1 else MAX_FAILURES) → StoreFailed a b
failed_by a b true e is = inl (omega (arith, is))
failed_by a b false e is = inr is

pub store_failed : (a b : ℕ) → b ≡ one_more_failure a → StoreFailed a b
store_failed a b is = failed_by a b (nat_lt a MAX_FAILURES) refl is

text_justified : (said : Result (List ℕ) Refusal) (refusal : Refusal) (a b : ℕ) → said ≢ Err StoreFault → (said ≡ Err refusal) ⊎ IsFailure refusal a b → refusal ≡ StoreFault → StoreFailed a b
text_justified said refusal a b agrees (inl is) e = absurd (agrees (is ∙ ap Err e))
text_justified said refusal a b agrees (inr (inl p)) e = absurd (cc (sym p.0 ∙ e))
text_justified said refusal a b agrees (inr (inr p)) e = store_failed a b p.1

-- what is asked for is no contradiction
abbrev Agrees : Option (Result (List ℕ) Refusal) → Type 0
Agrees o = MatchOption o ⊤ (λ said. said ≢ Err StoreFault)

printed_justified : (o : Option (Result (List ℕ) Refusal)) (response : Response) (a b : ℕ) → Agrees o → PrintsCounted o response a b → response ≡ replied (Refused StoreFault) → StoreFailed a b
printed_justified None response a b agrees is e = absurd (cc (sym is ∙ e))
printed_justified (Some said) (printed text) a b agrees h e = absurd (cc e)
printed_justified (Some said) (replied reply) a b agrees h e = text_justified said h.0 a b agrees h.2 (refused_same h.0 (sym h.1 ∙ reported_reply reply (Refused StoreFault) e))

asked_agrees : {X : Type 0} (says : X → Result (List ℕ) Refusal) → ((x : X) → says x ≢ Err StoreFault) → (o : Option X) → Agrees (option_map says o)
asked_agrees says agrees None = tt
asked_agrees says agrees (Some x) = agrees x

-- a text that was made, or the refusal that stands for it
pub reported_counted : {Z : Type 0} (r : Result (String Z) Refusal) (response : Response) (a b : ℕ) (said : Result (List ℕ) Refusal) → IsReportedOf r response → IsTextMade a b r said → ReportsCounted said response a b
reported_counted (Ok text) response a b said is reported = subst (λ t. ReportsCounted said t a b) (sym is) reported
reported_counted (Err refusal) response a b said is reported = subst (λ t. ReportsCounted said t a b) (sym is) (refusal, refl, reported)

pub text_asked : (o : Option (Result (List ℕ) Refusal)) (said : Result (List ℕ) Refusal) (response : Response) (a b : ℕ) → o ≡ Some said → ReportsCounted said response a b → PrintsCounted o response a b
text_asked o said response a b is h = subst (λ o. PrintsCounted o response a b) (sym is) h

pub none_asked : (o : Option (Result (List ℕ) Refusal)) (response : Response) (a b : ℕ) → o ≡ None → response ≡ replied (Refused BadMessage) → PrintsCounted o response a b
none_asked o response a b is reported = subst (λ o. PrintsCounted o response a b) (sym is) reported

-- the failures that go with a text
pub up_reported : {T : Type 0} (r : Result T Refusal) (a b : ℕ) → CountsRefusal r a b → CountsUp a b
up_reported (Ok x) a b is = inl is
up_reported (Err refusal) a b (inl is) = inl is
up_reported (Err refusal) a b (inr p) = up_reply a b (Refused StoreFault) p.1

-- ---- queries

ask_no_memory : (m : Content) (o : Option Query) → AskStep m o (Refused NoMemory) m
ask_no_memory m None = ((λ some. absurd (some refl)), refl)
ask_no_memory m (Some q) = ((λ no _. absurd (no refl)), refl)

pub ask_unread : (m : Content) (o : Option Query) (refusal : Refusal) → IsUnread refusal o → AskStep m o (Refused refusal) m
ask_unread m o refusal (inl is) = subst (λ r. AskStep m o (Refused r) m) (sym is) (ask_no_memory m o)
ask_unread m o refusal (inr why) = subst (λ o. AskStep m o (Refused refusal) m) (sym why.1) ((λ _. ap Refused why.0), refl)

pub ask_answered : (m : Content) (o : Option Query) (q : Query) (reply : Reply) → o ≡ Some q → Answers m q reply → AskStep m o reply m
ask_answered m o q reply is answers = subst (λ o. AskStep m o reply m) (sym is) (answers, refl)

pub unread_justified : (o : Option Query) (refusal : Refusal) (A : Type 0) → IsUnread refusal o → Refused refusal ≡ Refused StoreFault → A
unread_justified o refusal A why e = absurd (unread_not_store refusal o why (refused_same refusal e))

-- the account of a message, as far as there is one
abbrev AccountOf : Content → Option MessageOf → Response → Content → Type 0
AccountOf old o response next = HasAccount json_texts old (map (λ e. e.0) (with_reply o response)) (map (λ e. e.1) (with_reply o response)) next

refused_account : (m : Content) (refusal : Refusal) (o : Option MessageOf) → AccountOf m o (replied (Refused refusal)) m
refused_account m refusal None = account_same json_texts m m refl
refused_account m refusal (Some message) = account_same json_texts m m refl

-- a message that was refused left each content
pub message_kept : {B : Type 0} (book : Ghosts B) (before after : B) (body : List ℕ) (message : MessageOf) (reply : Reply) → line_message body ≡ Some message → RefusalKeeps book before after reply
    → KeepsElse book before after (asking Message body) (replied reply)
message_kept book before after body message reply is keeps clean_disk m held (inl none) = absurd (cc (is, none))
message_kept book before after body message reply is keeps clean_disk m held (inr (refusal, reported)) =
    subst (λ r. IfSome (refusal_in r) (λ _. book.holds after m)) (reported_reply reply (Refused refusal) reported) (keeps clean_disk m held)

module _ {B : Type 0} (book : Ghosts B) (before after : B) (m : Content) where
  pub message_served : (body : List ℕ) (message : MessageOf) (reply : Reply) (next : Content) → line_message body ≡ Some message → IsMessage message → Step json_texts m message reply next
      → book.holds after next → IsWellFormed json_texts next → ((left : book.Left) → book.may_leave after left → CrashStatesAfter json_texts book.stands (book.may_leave before) m message reply next left)
      → (reply ≡ Refused StoreFault → StoreFailed (book.failed before) (book.failed after))
      → HasServedInput book before after m (asking Message body) (replied reply)
  message_served body message reply next is is_message step held well_formed crash store_fault_justified =
      record {
        next = next;
        step = subst (λ (o : Option MessageOf). MatchOption o (IsNoMessage m reply next) (λ message. Step json_texts m message reply next)) (sym is) step;
        held = held;
        well_formed = well_formed;
        crash = subst (λ o. ExchangesLead book before after m (with_reply o (replied reply)) next) (sym is)
            (leads_one json_texts book.stands (book.may_leave before) (book.may_leave after) m next message reply step crash);
        store_fault_justified = λ e. store_fault_justified (reported_reply reply (Refused StoreFault) e);
        account = subst (λ o. AccountOf m o (replied reply) next) (sym is) (account_step json_texts m next message reply is_message step);
      }

  pub message_refused : (body : List ℕ) (refusal : Refusal) → IsUnread refusal (line_message body) → book.holds after m → IsWellFormed json_texts m
      → ((left : book.Left) → book.may_leave after left → book.may_leave before left) → HasServedInput book before after m (asking Message body) (replied (Refused refusal))
  message_refused body refusal why held well_formed keeps =
      record {
        next = m;
        step = message_unread m body refusal why;
        held = held;
        well_formed = well_formed;
        crash = leads_unread json_texts book.stands (book.may_leave before) (book.may_leave after) m refusal (line_message body) why well_formed keeps;
        store_fault_justified = λ e. absurd (unread_not_store refusal (line_message body) why (refused_same refusal (reported_reply (Refused refusal) (Refused StoreFault) e)));
        account = refused_account m refusal (line_message body);
      }

  -- ---- messages that were given a time

  module _ (at : ℕ) where
    pub message_timed : (body : List ℕ) (message : MessageOf) (reply : Reply) (next : Content) → line_message body ≡ Some message → StepAt json_texts at m message reply next → book.holds after next
        → IsInputHandledAt book after at m (line_message body)
    message_timed body message reply next is step held = subst (IsInputHandledAt book after at m) (sym is) (reply, next, step, held)

    out_of_memory : (o : Option MessageOf) → book.holds after m → IsInputHandledAt book after at m o
    out_of_memory None held = tt
    out_of_memory (Some message) held = (Refused NoMemory, m, no_memory_step json_texts m message (kept_at m (message_id_of message)), held)

    pub unread_timed : (o : Option MessageOf) (refusal : Refusal) → IsUnread refusal o → book.holds after m → IsInputHandledAt book after at m o
    unread_timed o refusal (inl is) held = out_of_memory o held
    unread_timed o refusal (inr why) held = subst (IsInputHandledAt book after at m) (sym why.1) tt

    pub else_timed : (route : Route) (text : List ℕ) → route ≢ Message → IsInputHandledAt book after at m (parse_message (asking route text))
    else_timed Message text other = absurd (other refl)
    else_timed _ text other = tt

  -- ---- what changes nothing

  module _ (held : book.holds after m) (well_formed : IsWellFormed json_texts m) (keeps : (left : book.Left) → book.may_leave after left → book.may_leave before left) where
    pub asked_served : (route : Route) (text : List ℕ) (reply : Reply) → route ≢ Message → route ≢ Plans → route ≢ Ticket → route ≢ Yield → AskStep m (asked_at route text) reply m
        → (reply ≡ Refused StoreFault → StoreFailed (book.failed before) (book.failed after)) → HasServedInput book before after m (asking route text) (replied reply)
    asked_served Message text reply a b c d step store_fault_justified = absurd (a refl)
    asked_served Plans text reply a b c d step store_fault_justified = absurd (b refl)
    asked_served Ticket text reply a b c d step store_fault_justified = absurd (c refl)
    asked_served Yield text reply a b c d step store_fault_justified = absurd (d refl)
    asked_served _ text reply a b c d step store_fault_justified = record { next = m; step = step; held = held; well_formed = well_formed; crash = (refl, keeps); store_fault_justified = λ e. store_fault_justified (reported_reply reply (Refused StoreFault) e); account = account_same json_texts m m refl }

    pub plans_served : (body : List ℕ) (response : Response) → PlansStep m (body_plans body) response m → (response ≡ replied (Refused StoreFault) → StoreFailed (book.failed before) (book.failed after))
        → HasServedInput book before after m (asking Plans body) response
    plans_served body response step store_fault_justified = record { next = m; step = step; held = held; well_formed = well_formed; crash = (refl, keeps); store_fault_justified = store_fault_justified; account = account_same json_texts m m refl }

    pub ticket_served : (part : List ℕ) (response : Response) → PrintsCounted (text_at m Ticket part) response (book.failed before) (book.failed after) → HasServedInput book before after m (asking Ticket part) response
    ticket_served part response h =
        record { next = m; step = printed_step m (text_at m Ticket part) response _ _ h; held = held; well_formed = well_formed; crash = (refl, keeps); store_fault_justified = printed_justified (text_at m Ticket part) response _ _ (asked_agrees (ticket_of m) (λ number. ticket_reported json_texts m number well_formed) (numbered part)) h; account = account_same json_texts m m refl }

    pub yield_served : (part : List ℕ) (response : Response) → PrintsCounted (text_at m Yield part) response (book.failed before) (book.failed after) → HasServedInput book before after m (asking Yield part) response
    yield_served part response h =
        record { next = m; step = printed_step m (text_at m Yield part) response _ _ h; held = held; well_formed = well_formed; crash = (refl, keeps); store_fault_justified = printed_justified (text_at m Yield part) response _ _ (asked_agrees (yield_of m) (report_response m) (code_at part)) h; account = account_same json_texts m m refl }
