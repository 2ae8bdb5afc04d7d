-- Searching beside serving: one search step a round, of the query of one connection.
use Rattle.std.specs.Prelude.{◌≡◌, ◌≢◌, ◌⊎◌, ◌<◌, ◌-◌, ℕ, Bool, true, Some, None, IsSome, Vec}
use Rattle.std.specs.declared.alloc.Global.{Global}
use Rattle.std.specs.declared.time.Instant.{Instant}
use Rattle.slab.specs.Slab.{Slab, get}
use Rattle.shop_book.specs.declared.books.Book.{Ghosts}
use Rattle.shop_planning.specs.PlanTasks.{instance_in}
use Rattle.shop_serve.specs.declared.connections.Connection.{Ghosts as ConnectionGhosts}
use Rattle.shop_serve.specs.declared.clients.ConnectionStatus.{ConnectionStatus}
use Rattle.shop_serve.specs.declared.clients.Client.{Client}
use Rattle.shop_serve.specs.declared.sites.Site.{Site}
use Rattle.shop_serve.specs.declared.searching.RunningTask.{RunningTask as RunningTaskOf}
use Rattle.shop_serve.specs.declared.searching.Progress.{Progress}
use Rattle.shop_serve.specs.declared.searching.Progress.TheVariants.{GoesOn, Answered, NoMemory}
use Rattle.shop_serve.specs.Clients.{IsServicedAt, NoneAsks}
use Rattle.shop_serve.specs.Making.{IsPlansAnswer, plans_refused, put_answer}
use Rattle.shop_serve.specs.Times.{Times, Reports, ReportsNone}

module _ {C : Type 0} where
  -- It is reported that memory ran out for its query, and took nothing of that.
  pub record IsRefused (old new : Client C) (seen seeing : Times) : Type 0 where
    pub answer : Vec ℕ Global
    pub now : Instant
    pub read : Reports seen seeing now
    pub reported : answer.items ≡ plans_refused
    pub kept : new ≡ put_answer old answer now

module _ {C : Type 0} (connection : ConnectionGhosts C) where
  -- Its query has had a search step now: it asks the same, and nothing else of the connection changed. Nothing more came of it, and its
  -- input didn't end; and where the others are too many it still had a call.
  pub record IsSteppedOnce (crowded : Bool) (now : Instant) (old new : Client C) : Type 0 where
    pub searching : RunningTaskOf
    pub next : RunningTaskOf
    pub asks : old.task ≡ Some searching
    pub same : instance_in next.task ≡ instance_in searching.task
    pub last : next.last ≡ Some now
    pub left : next.left ≡ searching.left - 1
    pub fair : crowded ≡ true → 0 < searching.left
    pub there : connection.is_drained new.stream
    pub took : connection.contents new.stream ≡ connection.contents old.stream
    pub kept : new ≡ record old { stream = new.stream; task = Some next }

  -- It has the answer to its own query, and took nothing of it. Its seconds begin anew, at the time that is read then.
  pub record IsFinished (old new : Client C) (seen seeing : Times) : Type 0 where
    pub searching : RunningTaskOf
    pub asks : old.task ≡ Some searching
    pub answer : Vec ℕ Global
    pub now : Instant
    pub read : Reports seen seeing now
    pub reported : IsPlansAnswer (instance_in searching.task) answer.items
    pub took : connection.contents new.stream ≡ connection.contents old.stream
    pub kept : new ≡ put_answer (record old { stream = new.stream }) answer now

  -- The connection of this key has a query, and no other connection changed. It goes on, it is answered, or memory ran out
  -- for that and it is closed.
  pub record IsSteppedAt (crowded : Bool) (progress : Progress) (now : Instant) (key : ℕ) (old new : Slab (Client C)) (seen seeing : Times) : Type 0 where
    pub client : Client C
    pub there : get old key ≡ Some client
    pub asks : IsSome client.task
    pub others : (other : ℕ) → other ≢ key → get new other ≡ get old other
    pub goes_on : progress ≡ GoesOn → (left : Client C) × (get new key ≡ Some left) × IsSteppedOnce crowded now client left × ReportsNone seen seeing
    pub answered : progress ≡ Answered → (left : Client C) × (get new key ≡ Some left) × IsFinished client left seen seeing
    pub closed : progress ≡ NoMemory → (get new key ≡ None) × ReportsNone seen seeing

module _ {C : Type 0} (connection : ConnectionGhosts C) (site : Site) {B : Type 0} (book : Ghosts B) where
  -- One query has had a search step. Where its answer was made its connection is serviced at once.
  pub record IsStepped (now : Instant) (old new : Slab (Client C)) (before after : B) (seen seeing : Times) : Type 0 where
    pub key : ℕ
    pub crowded : Bool
    pub progress : Progress
    pub clients : Slab (Client C)
    pub between : Times
    pub task : IsSteppedAt connection crowded progress now key old clients seen between
    pub goes_on : progress ≢ Answered → (new ≡ clients) × (after ≡ before) × ReportsNone between seeing
    pub answered : progress ≡ Answered → (status : ConnectionStatus) × IsServicedAt connection site book status key clients new before after between seeing

  -- one was, or none has a query and nothing is done
  abbrev pub StepsSearch : Instant → Slab (Client C) → Slab (Client C) → B → B → (seen seeing : Times) → Type 0
  StepsSearch now old new before after seen seeing =
      (NoneAsks old × (new ≡ old) × (after ≡ before) × ReportsNone seen seeing) ⊎ IsStepped now old new before after seen seeing
