-- What is made of a request: its answer, or what it asks; and what an answer to a query says.
use Rattle.std.specs.Prelude.{◌≡◌, ◌⊎◌, ℕ, List, Some, None, Vec}
use Rattle.std.specs.declared.alloc.Global.{Global}
use Rattle.std.specs.declared.time.Instant.{Instant}
use Rattle.shop_book.specs.declared.books.Book.{Ghosts}
use Rattle.shop_planning.specs.Answers.{IsPlansText}
use Rattle.shop_planning.specs.PlanTasks.{instance_in}
use Rattle.shop_planning.specs.declared.instance.PlanInstance.{PlanInstance}
use Rattle.shop_planning.specs.declared.task.PlanTask.{PlanTask as PlanTasks}
use Rattle.shop_records.specs.declared.messages.Reply.TheVariants.{Refused}
use Rattle.shop_records.specs.declared.refusals.Refusal.TheVariants.{NoMemory}
use Rattle.shop_request.specs.Guards.{HasVerdict}
use Rattle.shop_request.specs.declared.guards.Verdict.TheVariants.{Routed}
use Rattle.shop_request.specs.declared.routes.Route.TheVariants.{Plans}
use Rattle.shop_serve.specs.declared.answers.Made.{Made}
use Rattle.shop_serve.specs.declared.answers.Made.TheVariants.{Answer, PlanTask}
use Rattle.shop_serve.specs.declared.answers.Next.{Next}
use Rattle.shop_serve.specs.declared.answers.Next.TheVariants as next
use Rattle.shop_serve.specs.declared.clients.Client.{Client}
use Rattle.shop_serve.specs.declared.sites.Site.{Site}
use Rattle.shop_serve.specs.declared.searching.TheConstants.{FAIR_CALLS}
use Rattle.shop_serve.specs.Serving.{AsksBackup, IsAnsweredAlone, IsAnsweredMeanwhile}
use Rattle.shop_serve.specs.Times.{Times, ReportsNone}
use Rattle.shop_wire.specs.AnswerBytes.{answer_bytes, printed, replied, response_answer}
use Rattle.shop_wire.specs.Serves.{IsBegun}

-- By their head some bytes went to their route, and are a query; this is what it asks of the content. Nothing is done.
abbrev pub IsAsked : Site → {B : Type 0} → Ghosts B → B → B → (received : List ℕ) → PlanInstance → Type 0
IsAsked site book before after received instance =
    HasVerdict site.guard received Routed × IsBegun book before after (Some received) instance

-- what was made of some bytes
abbrev pub IsMadeOf : Site → {B : Type 0} → Ghosts B → B → B → (received : List ℕ) → Made → Type 0
IsMadeOf site book before after received (Answer answer) = IsAnsweredAlone site book before after received answer.items
IsMadeOf site book before after received (PlanTask task) = IsAsked site book before after received (instance_in task)

-- what is next: what was made of them is there, or the backup that they ask for is to be made, and nothing is done
abbrev pub IsNext : Site → {B : Type 0} → Ghosts B → B → B → (received : List ℕ) → Next → Type 0
IsNext site book before after received (next.Made made) = IsMadeOf site book before after received made
IsNext site book before after received next.Backup = AsksBackup site received × (after ≡ before)

-- what was made of some bytes, be it by a backup meanwhile
abbrev pub IsMadeMeanwhile : Site → {B : Type 0} → Ghosts B → B → B → (seen between : Times) → (received : List ℕ) → Made → Type 0
IsMadeMeanwhile site book before after seen between received (Answer answer) = IsAnsweredMeanwhile site book before after seen between received answer.items
IsMadeMeanwhile site book before after seen between received (PlanTask task) = IsAsked site book before after received (instance_in task) × ReportsNone seen between

-- the answer that memory ran out for a query
abbrev pub plans_refused : List ℕ
plans_refused = answer_bytes (response_answer Plans (replied (Refused NoMemory)))

-- the answer to a query: it reports plans for just what was asked, or that memory ran out
abbrev pub IsPlansAnswer : PlanInstance → List ℕ → Type 0
IsPlansAnswer instance answer =
    ((text : List ℕ) × IsPlansText instance text × (answer ≡ answer_bytes (response_answer Plans (printed text))))
    ⊎ (answer ≡ plans_refused)

-- it has this answer from now on, and took nothing of it
abbrev pub put_answer : {C : Type 0} → Client C → Vec ℕ Global → Instant → Client C
put_answer client answer now = record client { task = None; answer = Some answer; sent = 0; since = now }

-- it has this query from now on, which waits
abbrev pub put_task : {C : Type 0} → Client C → PlanTasks → Instant → Client C
put_task client task now = record client { task = Some (record { task = task; last = None; left = FAIR_CALLS }); answer = None; sent = 0; since = now }

-- what was made is put into its connection
abbrev pub put_made : {C : Type 0} → Client C → Made → Instant → Client C
put_made client (Answer answer) now = put_answer client answer now
put_made client (PlanTask task) now = put_task client task now
