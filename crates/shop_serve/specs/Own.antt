-- Each connection has its own: its query and its answer are those of the bytes that came of it.
use Rattle.std.specs.Prelude.{◌≡◌, ◌⊎◌, ℕ, List, Some, None, IfSome}
use Rattle.slab.specs.Slab.{Slab, get}
use Rattle.shop_book.specs.declared.books.Book.{Ghosts}
use Rattle.shop_planning.specs.PlanTasks.{instance_in}
use Rattle.shop_planning.specs.declared.instance.PlanInstance.{PlanInstance}
use Rattle.shop_serve.specs.declared.connections.Connection.{Ghosts as ConnectionGhosts}
use Rattle.shop_serve.specs.declared.ports.Port.{Ghosts as PortGhosts}
use Rattle.shop_serve.specs.declared.clients.Client.{Client}
use Rattle.shop_serve.specs.declared.sites.Site.{Site}
use Rattle.shop_serve.specs.Making.{IsAsked, IsPlansAnswer}
use Rattle.shop_serve.specs.Rounds.{AreRounds, Round}
use Rattle.shop_serve.specs.Serving.{HasServed, IsAnswered}
use Rattle.shop_serve.specs.Times.{Times}

module _ (site : Site) {B : Type 0} (book : Ghosts B) where
  -- requests led from one book to another: a disk that is clean at last was so at first
  pub record Leads (before after : B) : Type 0 where
    pub clean_disk : book.has_clean_disk after → book.has_clean_disk before
    pub count : ℕ
    pub served : HasServed site book before after count

  -- This was done with a book that requests led to, and it led to what there is now.
  pub record WasDone (before after : B) (done : B → B → Type 0) : Type 0 where
    pub old : B
    pub new : B
    pub earlier : Leads before old
    pub step : done old new
    pub clean_disk : book.has_clean_disk new → book.has_clean_disk old
    pub later : Leads new after

  -- these bytes are a query that was asked then, and this is what it asks of the content that the book had
  abbrev pub WasAsked : B → B → List ℕ → PlanInstance → Type 0
  WasAsked before after received instance = WasDone before after (λ old new. IsAsked site book old new received instance)

  -- this is the answer to these bytes that was made then; or they are a query, and it is the answer to that
  abbrev pub WasAnswered : B → B → List ℕ → List ℕ → Type 0
  WasAnswered before after received answer =
      WasDone before after (λ old new. IsAnswered site book old new received answer)
      ⊎ ((instance : PlanInstance) × WasAsked before after received instance × IsPlansAnswer instance answer)

  -- a connection's query and its answer are those of its own bytes
  abbrev pub HasItsOwn : {C : Type 0} → B → B → Client C → Type 0
  HasItsOwn before after client =
      IfSome client.task (λ t. WasAsked before after client.received.items (instance_in t.task))
      × IfSome client.answer (λ answer. WasAnswered before after client.received.items answer.items)

-- where none is open at first, each that is open after the rounds has its own
abbrev pub EachHasItsOwn : {C : Type 0} → ConnectionGhosts C → Site → {B : Type 0} → Ghosts B → {P : Type 0} → PortGhosts P C → Type 0
EachHasItsOwn {C} connection site {B} book port =
    (rounds : List (Round C)) (first last : Slab (Client C)) (before after : B) (seen seeing : Times) → AreRounds connection site book port rounds first last before after seen seeing
    → ((key : ℕ) → get first key ≡ None) → (key : ℕ) (client : Client C) → get last key ≡ Some client → HasItsOwn site book before after client
