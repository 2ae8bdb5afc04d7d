-- `plans` queries that were answered or begun.
use Rattle.std.proofs.Common.{◌≡◌, ℕ, ap, inl, List, Option, Some, Result, Ok, Err, refl, sym, subst}
use Rattle.std.specs.Prelude.{IfOk, IfErr, IfSome}
use Rattle.shop_records.specs.declared.messages.Reply.TheVariants.{Refused}
use Rattle.shop_records.specs.declared.refusals.Refusal.{Refusal}
use Rattle.shop_records.specs.declared.refusals.Refusal.TheVariants.{StoreFault}
use Rattle.shop_records.specs.Content.{Content}
use Rattle.shop_records.specs.WellFormed.{IsWellFormed}
use Rattle.shop_forms.specs.Forms.{json_texts}
use Rattle.shop_book.specs.declared.books.Book.{Ghosts}
use Rattle.shop_book.specs.Kept.{OnContent, Unchanged}
use Rattle.shop_desk.specs.Faults.{CountsUp, StoreFailed}
use Rattle.shop_desk.proofs.Justified.{up_reply}
use Rattle.shop_plans.specs.declared.queries.PlansQuery.{PlansQuery}
use Rattle.shop_planning.specs.declared.task.PlanTask.{PlanTask}
use Rattle.shop_planning.specs.Faults.{CountsRefusal}
use Rattle.shop_planning.specs.Queries.{AnswersPlans, IsInstance}
use Rattle.shop_planning.specs.PlanTasks.{instance_in}
use Rattle.shop_request.specs.declared.routes.Route.TheVariants.{Plans}
use Rattle.shop_request.specs.Requests.{ParsesTo, asking}
use Rattle.shop_wire.specs.AnswerBytes.{Response, replied}
use Rattle.shop_wire.specs.Serves.{HasServedInput, IsBegun, body_plans}
use Rattle.shop_wire.specs.Responses.{IsRead, IsUnread}
use Rattle.shop_wire.proofs.Answered.{plans_answered_to, plans_unread, reports_refusal, unread_not_store}
use Rattle.shop_wire.proofs.Acted.{plans_served, store_failed}

-- ---- what was read

pub asked_some : (r : Result PlansQuery Refusal) (meant : Option PlansQuery) (query : PlansQuery) → r ≡ Ok query → IsRead (λ (q : PlansQuery). q) r meant → meant ≡ Some query
asked_some r meant query is read = subst (λ r. IsRead (λ (q : PlansQuery). q) r meant) is read

pub asked_none : (r : Result PlansQuery Refusal) (meant : Option PlansQuery) (refusal : Refusal) → r ≡ Err refusal → IsRead (λ (q : PlansQuery). q) r meant → IsUnread refusal meant
asked_none r meant refusal is read = subst (λ r. IsRead (λ (q : PlansQuery). q) r meant) is read

pub reported_refusal : (refusal other : Refusal) (response : Response) → response ≡ replied (Refused refusal) → response ≡ replied (Refused other) → refusal ≡ other
reported_refusal refusal other response reported e = cc

-- ---- failures

pub up_plans : {T : Type 0} (r : Result T Refusal) (a b : ℕ) → CountsRefusal r a b → CountsUp a b
up_plans (Ok x) a b is = inl (is.others (λ e. cc))
up_plans (Err StoreFault) a b is = up_reply a b (Refused StoreFault) (is.store_fault refl)
up_plans (Err _) a b is = inl (is.others (λ e. cc))

pub plans_justified : (T : Type 0) (refusal : Refusal) (a b : ℕ) → refusal ≡ StoreFault → CountsRefusal {T = T} (Err refusal) a b → StoreFailed a b
plans_justified T refusal a b is counts = store_failed a b (counts.store_fault (ap Err is))

-- what isn't read touches no store
pub unread_counts : {B : Type 0} (T : Type 0) (refusal : Refusal) (o : Option B) (n : ℕ) → IsUnread refusal o → CountsRefusal {T = T} (Err refusal) n n
unread_counts T refusal o n why = record { store_fault = λ e. absurd (unread_not_store refusal o why cc); others = λ _. refl }

-- ---- a query whose instance was built, or is refused

module _ {B : Type 0} (book : Ghosts B) (before after : B) (body : List ℕ) where
  pub posed_begun : (query : PlansQuery) (left : Option (List ℕ)) (r : Result PlanTask Refusal) → body_plans body ≡ Some query → IfSome left (λ input. ParsesTo input (asking Plans body))
      → OnContent book before after (λ m. IfOk r (λ task. IsInstance m query (instance_in task))) → Unchanged book (CountsRefusal r) before after
      → IfOk r (λ task. IsBegun book before after left (instance_in task))
  posed_begun query left (Ok task) asks parsed builds keeps =
      record {
        body = body;
        query = query;
        parsed = parsed;
        asks = asks;
        run = λ clean_disk m held well_formed. (keeps.stays clean_disk m held, builds clean_disk m held);
        keeps = record { clean_disk = keeps.clean_disk; stays = keeps.stays; crash = keeps.crash; failures = keeps.failures.others (λ e. cc) };
      }
  posed_begun query left (Err refusal) asks parsed builds keeps = tt

  refused_served : (query : PlansQuery) (refusal : Refusal) (m : Content) → body_plans body ≡ Some query → AnswersPlans m query (Err refusal) → book.holds after m → IsWellFormed json_texts m
      → ((left : book.Left) → book.may_leave after left → book.may_leave before left) → (refusal ≡ StoreFault → StoreFailed (book.failed before) (book.failed after)) → HasServedInput book before after m (asking Plans body) (replied (Refused refusal))
  refused_served query refusal m asks answers held well_formed keeps store_fault_justified =
      plans_served book before after m held well_formed keeps body (replied (Refused refusal))
      (plans_answered_to m (body_plans body) query (replied (Refused refusal)) asks (reports_refusal m query refusal (replied (Refused refusal)) refl answers))
      (λ e. store_fault_justified (reported_refusal refusal StoreFault (replied (Refused refusal)) refl e))

  pub posed_refused : (query : PlansQuery) (r : Result PlanTask Refusal) → body_plans body ≡ Some query
      → OnContent book before after (λ m. IfErr r (λ refusal. AnswersPlans m query (Err refusal))) → Unchanged book (CountsRefusal r) before after
      → IfErr r (λ refusal. OnContent book before after (λ m. IsWellFormed json_texts m → HasServedInput book before after m (asking Plans body) (replied (Refused refusal))))
  posed_refused query (Ok task) asks answers keeps = tt
  posed_refused query (Err refusal) asks answers keeps = λ clean_disk m held well_formed.
      refused_served query refusal m asks (answers clean_disk m held) (keeps.stays clean_disk m held) well_formed (keeps.crash clean_disk m held) (λ is. plans_justified PlanTask refusal (book.failed before) (book.failed after) is keeps.failures)

  pub unread_served : (refusal : Refusal) (m : Content) → IsUnread refusal (body_plans body) → book.holds after m → IsWellFormed json_texts m
      → ((left : book.Left) → book.may_leave after left → book.may_leave before left) → HasServedInput book before after m (asking Plans body) (replied (Refused refusal))
  unread_served refusal m unread held well_formed keeps =
      plans_served book before after m held well_formed keeps body (replied (Refused refusal)) (plans_unread m (body_plans body) refusal (replied (Refused refusal)) unread refl)
      (λ e. absurd (unread_not_store refusal (body_plans body) unread (reported_refusal refusal StoreFault (replied (Refused refusal)) refl e)))

  pub refused_reported : (refusal : Refusal) (response : Response) → response ≡ replied (Refused refusal)
      → OnContent book before after (λ m. IsWellFormed json_texts m → HasServedInput book before after m (asking Plans body) (replied (Refused refusal)))
      → OnContent book before after (λ m. IsWellFormed json_texts m → HasServedInput book before after m (asking Plans body) response)
  refused_reported refusal response reported served = subst (λ t. OnContent book before after (λ m. IsWellFormed json_texts m → HasServedInput book before after m (asking Plans body) t)) (sym reported) served
