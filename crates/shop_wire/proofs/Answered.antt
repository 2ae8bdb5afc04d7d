-- What is answered to a value and to a line.
use Rattle.std.proofs.Common.{◌≡◌, ◌≢◌, ℕ, ◌+◌, ◌<◌, ◌≤◌, inl, inr, List, [], ◌∷◌, map, length, Bool, true, false, nat_le, Option, Some, None, refl, sym, ap, subst, ◌∙◌, arith}
use Rattle.std.specs.Prelude.{MatchOption, ◌&&◌, if◌then◌else◌, option_and_then, Result, Ok, Err, IfOk, IfErr}
use Rattle.std.specs.List.{flat_map}
use Rattle.std.specs.Str.{IsUtf8, is_utf8}
use Rattle.std.proofs.lemmas.Str.{IsUtf8-from_is_utf8, is_utf8-from_IsUtf8}
use Rattle.std.proofs.lemmas.Bool.{le-leb, lt-leb}
use Rattle.std.proofs.lemmas.Bool.Decides.{nat_tests}
use Rattle.std.proofs.lemmas.List.{take_all, length-take}
use Rattle.shop_records.specs.declared.messages.Message.{Message}
use Rattle.shop_records.specs.declared.messages.Query.{Query}
use Rattle.shop_records.specs.declared.refusals.Refusal.{Refusal}
use Rattle.shop_records.specs.declared.refusals.Refusal.TheVariants.{BadMessage, NoMemory, StoreFault}
use Rattle.shop_records.specs.declared.messages.Reply.{Reply}
use Rattle.shop_records.specs.declared.messages.Reply.TheVariants.{Refused}
use Rattle.shop_records.specs.Messages.{IsMessage, message_id_of}
use Rattle.shop_records.specs.Content.{Content, kept_at}
use Rattle.shop_machine.specs.Machine.{Step}
use Rattle.shop_answers.specs.Queries.{Answers}
use Rattle.shop_records.specs.WellFormed.{IsWellFormed}
use Rattle.shop_book.specs.declared.books.Book.{Ghosts}
use Rattle.serde_json.specs.Data.{Data}
use Rattle.serde_json.specs.Read.{read}
use Rattle.shop_forms.specs.Forms.{message_of, query_of, json_texts}
use Rattle.shop_plans.specs.declared.queries.PlansQuery.{PlansQuery}
use Rattle.shop_plans.specs.Queries.{plans_query_of}
use Rattle.shop_planning.specs.Queries.{AnswersPlans}
use Rattle.shop_desk.specs.Faults.{StoreFailed, ReportOfFailures}
use Rattle.shop_desk.specs.Handled.{HasAccount, CrashStatesAfter}
use Rattle.shop_desk.proofs.Justified.{report_one}
use Rattle.shop_desk.proofs.Accounts.{account_same, account_step}
use Rattle.shop_wire.specs.Lines.{kept_of, longest_line}
use Rattle.shop_wire.specs.Responses.{IsRead, IsUnread}
use Rattle.shop_wire.specs.AnswerBytes.{Response, replied, printed}
use Rattle.shop_wire.specs.Replays.{data_of, IsNoMessage, IsReplied, PlansStep, ReportsPlans, ValueStep, LineStep, line_message, replies_in, with_reply, ExchangesLead, HasAnswered}
use Rattle.shop_wire.proofs.Crashes.{leads_one, leads_unread, no_memory_step}

pub not_store : (refusal : Refusal) → refusal ≡ BadMessage → refusal ≢ StoreFault
not_store refusal is e = cc

-- lack of memory or nothing that can be read: the store isn't blamed
pub unread_not_store : {B : Type 0} (refusal : Refusal) (o : Option B) → IsUnread refusal o → refusal ≢ StoreFault
unread_not_store refusal o (inl is) e = cc
unread_not_store refusal o (inr why) e = not_store refusal why.0 e

-- what is no value is no message
pub unread_line : (refusal : Refusal) (o : Option Data) → IsUnread refusal o → IsUnread refusal (option_and_then message_of o)
unread_line refusal o (inl is) = inl is
unread_line refusal o (inr why) = inr (why.0, ap (option_and_then message_of) why.1)

pub reported_reply : (reply other : Reply) → replied reply ≡ replied other → reply ≡ other
reported_reply reply other e = cc

module _ (old new : Content) (d : Data) (response : Response) where
  abbrev Otherwise : Option Query → Type 0
  Otherwise o = MatchOption o (PlansStep old (plans_query_of d) response new) (λ query. IsReplied response (λ reply. Answers old query reply × (new ≡ old)))

  abbrev Whole : Option Message → Type 0
  Whole o = MatchOption o (Otherwise (query_of d)) (λ message. IsReplied response (λ reply. Step json_texts old message reply new))

  of_no_message : message_of d ≡ None → Otherwise (query_of d) → ValueStep old d response new
  of_no_message none other = subst Whole (sym none) other

  pub of_plans : message_of d ≡ None → query_of d ≡ None → PlansStep old (plans_query_of d) response new → ValueStep old d response new
  of_plans none nothing step = of_no_message none (subst Otherwise (sym nothing) step)

module _ (old new : Content) (d : Data) (reply : Reply) where
  pub of_message : (message : Message) → message_of d ≡ Some message → Step json_texts old message reply new → ValueStep old d (replied reply) new
  of_message message is step = subst (Whole old new d (replied reply)) (sym is) step

  pub of_query : (query : Query) → message_of d ≡ None → query_of d ≡ Some query → Answers old query reply → new ≡ old → ValueStep old d (replied reply) new
  of_query query none is answered stays = of_no_message old new d (replied reply) none (subst (Otherwise old new d (replied reply)) (sym is) (answered, stays))

-- ---- `plans` queries

-- lack of memory may be answered to any of them
plans_no_memory : (m : Content) (o : Option PlansQuery) → PlansStep m o (replied (Refused NoMemory)) m
plans_no_memory m None = ((λ no. absurd (no refl)), refl)
plans_no_memory m (Some query) = ((NoMemory, refl, (λ no _. absurd (no refl))), refl)

pub plans_read : (r : Result PlansQuery Refusal) (meant : Option PlansQuery) → IfOk r (λ query. meant ≡ Some query)
    → IfErr r (λ refusal. IsUnread refusal meant) → IsRead (λ (query : PlansQuery). query) r meant
plans_read (Ok query) meant is unread = is
plans_read (Err refusal) meant is unread = unread

pub plans_unread : (m : Content) (o : Option PlansQuery) (refusal : Refusal) (response : Response) → IsUnread refusal o → response ≡ replied (Refused refusal) → PlansStep m o response m
plans_unread m o refusal response (inl is) reported = subst (λ t. PlansStep m o t m) (sym (reported ∙ ap (λ r. replied (Refused r)) is)) (plans_no_memory m o)
plans_unread m o refusal response (inr why) reported =
    subst (λ t. PlansStep m o t m) (sym reported) (subst (λ o. PlansStep m o (replied (Refused refusal)) m) (sym why.1) ((λ _. ap Refused why.0), refl))

pub plans_answered_to : (m : Content) (o : Option PlansQuery) (query : PlansQuery) (response : Response) → o ≡ Some query → ReportsPlans m query response → PlansStep m o response m
plans_answered_to m o query response is reports = subst (λ o. PlansStep m o response m) (sym is) (reports, refl)

pub reports_refusal : (m : Content) (query : PlansQuery) (refusal : Refusal) (response : Response) → response ≡ replied (Refused refusal) → AnswersPlans m query (Err refusal)
    → ReportsPlans m query response
reports_refusal m query refusal response reported answers = subst (ReportsPlans m query) (sym reported) (refusal, refl, answers)

-- ---- any value

-- lack of memory may be answered to any value
pub of_no_memory : (old : Content) (d : Data) → ValueStep old d (replied (Refused NoMemory)) old
of_no_memory old d = by_message (message_of d)
  where
    by_query : (o : Option Query) → Otherwise old old d (replied (Refused NoMemory)) o
    by_query None = plans_no_memory old (plans_query_of d)
    by_query (Some query) = ((λ no _. absurd (no refl)), refl)

    by_message : (o : Option Message) → Whole old old d (replied (Refused NoMemory)) o
    by_message None = by_query (query_of d)
    by_message (Some message) = no_memory_step json_texts old message (kept_at old (message_id_of message))

-- ---- lines

pub data_read : (line : List ℕ) (d : Data) → length line ≤ 131072 → IsUtf8 line → read line ≡ Some d → data_of line ≡ Some d
data_read line d short text is = rw (le-leb (length line) 131072 short, is_utf8-from_IsUtf8 line text) is

unread : (line : List ℕ) (b : Bool) → is_utf8 line ≡ b → (short : Bool) → (IsUtf8 line → read line ≡ None) → (if short && b then read line else None) ≡ None
unread line true e true none = none (IsUtf8-from_is_utf8 line e)
unread line true e false none = refl
unread line false e true none = refl
unread line false e false none = refl

pub data_none : (line : List ℕ) → (IsUtf8 line → read line ≡ None) → data_of line ≡ None
data_none line none = unread line (is_utf8 line) refl (nat_le (length line) 131072) none

pub data_long : (line : List ℕ) → 131072 < length line → data_of line ≡ None
data_long line long = ap (λ (short : Bool). if short && is_utf8 line then read line else None) (lt-leb (length line) 131072 long)

abbrev ByValue : Content → Response → Content → Option Data → Type 0
ByValue old response new o = MatchOption o (IsReplied response (λ reply. IsNoMessage old reply new)) (λ d. ValueStep old d response new)

pub line_answered : (old new : Content) (line : List ℕ) (d : Data) (response : Response) → data_of line ≡ Some d → ValueStep old d response new → LineStep old line response new
line_answered old new line d response is step = subst (ByValue old response new) (sym is) step

line_refused : (old : Content) (line : List ℕ) → data_of line ≡ None → LineStep old line (replied (Refused BadMessage)) old
line_refused old line is = subst (ByValue old (replied (Refused BadMessage)) old) (sym is) ((λ _. refl), refl)

-- a line that isn't read is refused
line_no_memory : (old : Content) (o : Option Data) → ByValue old (replied (Refused NoMemory)) old o
line_no_memory old None = ((λ no. absurd (no refl)), refl)
line_no_memory old (Some d) = of_no_memory old d

pub line_unread : (old : Content) (line : List ℕ) (refusal : Refusal) → IsUnread refusal (data_of line) → LineStep old line (replied (Refused refusal)) old
line_unread old line refusal (inl is) = subst (λ (r : Refusal). LineStep old line (replied (Refused r)) old) (sym is) (line_no_memory old (data_of line))
line_unread old line refusal (inr why) = subst (λ (r : Refusal). LineStep old line (replied (Refused r)) old) (sym why.0) (line_refused old line why.1)

pub not_memory : {M : Type 0} (b : Bool) → (M → b ≡ true) → b ≡ false → ¬ M
not_memory b reported is m = cc (reported m)

-- ---- what is asked alone

-- what is asked alone, with its reply, where it is a message
abbrev pub exchange : Option Message → Response → List (Message × Reply)
exchange o response = flat_map (λ (e : Option Message × Response). with_reply e.0 e.1) ((o, response) ∷ [])

-- its account
abbrev pub AccountOne : Content → Response → Content → Option Message → Type 0
AccountOne old response next o = HasAccount json_texts old (map (λ e. e.0) (exchange o response)) (map (λ e. e.1) (exchange o response)) next

-- a refusal leaves content and history
refused_account : (m : Content) (refusal : Refusal) (o : Option Message) → AccountOne m (replied (Refused refusal)) m o
refused_account m refusal None = account_same json_texts m m refl
refused_account m refusal (Some message) = account_same json_texts m m refl

report_reported : (a b : ℕ) (response : Response) → (response ≡ replied (Refused StoreFault) → StoreFailed a b) → ReportOfFailures (replies_in (response ∷ [])) a b
report_reported a b (replied reply) store_fault_justified = report_one a b reply (λ is. store_fault_justified (ap replied is))
report_reported a b (printed text) store_fault_justified = λ none. absurd none

-- what a crash may leave after it
abbrev pub LeadsOne : {B : Type 0} → Ghosts B → B → B → Content → Response → Content → Option Message → Type 0
LeadsOne book before after old response next o = ExchangesLead book before after old (exchange o response) next

module _ {B : Type 0} (book : Ghosts B) (before after : B) (m : Content) where
  refused_crash : (refusal : Refusal) (o : Option Message) → IsUnread refusal o → IsWellFormed json_texts m → ((left : book.Left) → book.may_leave after left → book.may_leave before left)
      → LeadsOne book before after m (replied (Refused refusal)) m o
  refused_crash refusal None why well_formed keeps = leads_unread json_texts book.stands (book.may_leave before) (book.may_leave after) m refusal None why well_formed keeps
  refused_crash refusal (Some message) why well_formed keeps = leads_unread json_texts book.stands (book.may_leave before) (book.may_leave after) m refusal (Some message) why well_formed keeps

  -- by an element of any kind
  module _ {X : Type 0} (step : Content → X → Response → Content → Type 0) (message_in : X → Option Message) (x : X) where
    pub one_answered : (response : Response) (next : Content) → step m x response next → book.holds after next → IsWellFormed json_texts next
        → LeadsOne book before after m response next (message_in x) → (response ≡ replied (Refused StoreFault) → StoreFailed (book.failed before) (book.failed after)) → AccountOne m response next (message_in x)
        → HasAnswered step message_in book before after m (x ∷ []) (response ∷ [])
    one_answered response next is held well_formed crash store_fault_justified account =
        record { next = next; run = (next, is, refl); held = held; well_formed = well_formed; crash = crash; store_fault_justified = report_reported (book.failed before) (book.failed after) response store_fault_justified; account = account }

    -- refused unread
    pub one_refused : (refusal : Refusal) (response : Response) → response ≡ replied (Refused refusal) → IsUnread refusal (message_in x) → step m x (replied (Refused refusal)) m → book.holds after m
        → IsWellFormed json_texts m → ((left : book.Left) → book.may_leave after left → book.may_leave before left) → HasAnswered step message_in book before after m (x ∷ []) (response ∷ [])
    one_refused refusal response reported why is held well_formed keeps =
        subst (λ t. HasAnswered step message_in book before after m (x ∷ []) (t ∷ [])) (sym reported)
        (one_answered (replied (Refused refusal)) m is held well_formed (refused_crash refusal (message_in x) why well_formed keeps) (λ e. absurd (unread_not_store refusal (message_in x) why (same refusal e))) (refused_account m refusal (message_in x)))
      where
        same : (refusal : Refusal) → replied (Refused refusal) ≡ replied (Refused StoreFault) → refusal ≡ StoreFault
        same refusal e = cc

  pub message_answered : (d : Data) (message : Message) (reply : Reply) (next : Content) → message_of d ≡ Some message → IsMessage message → Step json_texts m message reply next
      → book.holds after next → IsWellFormed json_texts next → ((left : book.Left) → book.may_leave after left → CrashStatesAfter json_texts book.stands (book.may_leave before) m message reply next left)
      → (reply ≡ Refused StoreFault → StoreFailed (book.failed before) (book.failed after)) → HasAnswered ValueStep message_of book before after m (d ∷ []) (replied reply ∷ [])
  message_answered d message reply next is is_message step held well_formed crash store_fault_justified =
      one_answered ValueStep message_of d (replied reply) next (of_message m next d reply message is step) held well_formed
      (subst (LeadsOne book before after m (replied reply) next) (sym is) (leads_one json_texts book.stands (book.may_leave before) (book.may_leave after) m next message reply step crash))
      (λ e. store_fault_justified (reported_reply reply (Refused StoreFault) e))
      (subst (AccountOne m (replied reply) next) (sym is) (account_step json_texts m next message reply is_message step))

  -- what is no message, and leaves the content
  unsent_answered : (d : Data) (response : Response) → message_of d ≡ None → ValueStep m d response m → book.holds after m → IsWellFormed json_texts m
      → ((left : book.Left) → book.may_leave after left → book.may_leave before left) → (response ≡ replied (Refused StoreFault) → StoreFailed (book.failed before) (book.failed after)) → HasAnswered ValueStep message_of book before after m (d ∷ []) (response ∷ [])
  unsent_answered d response none step held well_formed keeps store_fault_justified =
      one_answered ValueStep message_of d response m step held well_formed (subst (LeadsOne book before after m response m) (sym none) (refl, keeps)) store_fault_justified (subst (AccountOne m response m) (sym none) (account_same json_texts m m refl))

  pub query_answered : (d : Data) (query : Query) (reply : Reply) → message_of d ≡ None → query_of d ≡ Some query → Answers m query reply
      → book.holds after m → IsWellFormed json_texts m → ((left : book.Left) → book.may_leave after left → book.may_leave before left) → (reply ≡ Refused StoreFault → StoreFailed (book.failed before) (book.failed after))
      → HasAnswered ValueStep message_of book before after m (d ∷ []) (replied reply ∷ [])
  query_answered d query reply none is answers held well_formed keeps store_fault_justified =
      unsent_answered d (replied reply) none (of_query m m d reply query none is answers refl) held well_formed keeps (λ e. store_fault_justified (reported_reply reply (Refused StoreFault) e))

  pub plans_answered : (d : Data) (response : Response) → message_of d ≡ None → query_of d ≡ None → PlansStep m (plans_query_of d) response m
      → book.holds after m → IsWellFormed json_texts m → ((left : book.Left) → book.may_leave after left → book.may_leave before left) → (response ≡ replied (Refused StoreFault) → StoreFailed (book.failed before) (book.failed after))
      → HasAnswered ValueStep message_of book before after m (d ∷ []) (response ∷ [])
  plans_answered d response none nothing step held well_formed keeps store_fault_justified = unsent_answered d response none (of_plans m m d response none nothing step) held well_formed keeps store_fault_justified

  -- a line that is a value is answered as the value
  pub value_answered : (line : List ℕ) (d : Data) (response : Response) → data_of line ≡ Some d → HasAnswered ValueStep message_of book before after m (d ∷ []) (response ∷ [])
      → HasAnswered LineStep line_message book before after m (line ∷ []) (response ∷ [])
  value_answered line d response is one =
      record {
        next = one.next;
        run = (one.run.0, line_answered m one.run.0 line d response is one.run.1, one.run.2);
        held = one.held;
        well_formed = one.well_formed;
        crash = subst (LeadsOne book before after m response one.next) (sym (ap (option_and_then message_of) is)) one.crash;
        store_fault_justified = one.store_fault_justified;
        account = subst (AccountOne m response one.next) (sym (ap (option_and_then message_of) is)) one.account;
      }

-- ---- what is kept of a line stands for what the line does

by_length : (whole : List ℕ) (short : Bool) → nat_le (length whole) 131072 ≡ short → data_of (kept_of whole) ≡ data_of whole
by_length whole true e = let within : length whole ≤ longest_line + 1 = grind (arith, nat_tests) in ap data_of (take_all (longest_line + 1) whole within)
by_length whole false e =
    let long : 131072 < length whole = grind (arith, nat_tests) in
    data_long (kept_of whole) (omega (arith, length-take (longest_line + 1) whole)) ∙ sym (data_long whole long)

pub data_of-kept_of : (whole : List ℕ) → data_of (kept_of whole) ≡ data_of whole
data_of-kept_of whole = by_length whole (nat_le (length whole) 131072) refl

pub whole_line : (old new : Content) (whole : List ℕ) (response : Response) → LineStep old (kept_of whole) response new → LineStep old whole response new
whole_line old new whole response step = subst (ByValue old response new) (data_of-kept_of whole) step
