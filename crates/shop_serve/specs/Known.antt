-- What is done with a connection that reports all: its one request is answered, and it takes its own answer; or it is a query, and
-- that is its own.
use Rattle.std.specs.Prelude.{◌≡◌, ◌≢◌, ◌⊎◌, ◌<◌, ◌≤◌, ℕ, List, [], ◌++◌, length, take, Option, Some, None, IfSome, IsSomeAnd}
use Rattle.slab.specs.Slab.{Slab, get}
use Rattle.std.specs.declared.time.Instant.{Instant}
use Rattle.shop_book.specs.declared.books.Book.{Ghosts}
use Rattle.shop_request.specs.Requests.{most_request_reads}
use Rattle.shop_request.specs.Parses.{IsDetermined, IsUnfinished}
use Rattle.shop_serve.specs.declared.connections.Connection.{Ghosts as ConnectionGhosts}
use Rattle.shop_serve.specs.declared.clients.ConnectionStatus.{ConnectionStatus}
use Rattle.shop_serve.specs.declared.clients.ConnectionStatus.TheVariants.{NoMemory}
use Rattle.shop_serve.specs.declared.clients.Client.{Client}
use Rattle.shop_serve.specs.declared.sites.Site.{Site}
use Rattle.shop_serve.specs.Clients.{IsServicedAt, IsFresh, StopsAt}
use Rattle.shop_planning.specs.declared.instance.PlanInstance.{PlanInstance}
use Rattle.shop_serve.specs.Making.{IsAsked}
use Rattle.shop_serve.specs.Serving.{IsAnswered}
use Rattle.shop_serve.specs.Times.{Times}

module _ {C : Type 0} (connection : ConnectionGhosts C) where
  -- nothing more came of a connection only where nothing is left of what comes, and none is lost
  pub record ReportsAll : Type 0 where
    pub drained : (c : C) → connection.is_drained c → connection.remaining c ≡ Some []
    pub kept : (c : C) → connection.is_lost c → ⊥

  -- so many bytes are all that comes of it, a whole request or a fault among them, and it took nothing
  pub record BringsRequest (stream : C) (input : List ℕ) : Type 0 where
    pub comes : connection.remaining stream ≡ Some input
    pub took : connection.contents stream ≡ Some []
    pub whole : IsUnfinished input → ⊥
    pub few : length input < most_request_reads

  module _ (site : Site) {B : Type 0} (book : Ghosts B) where
    -- The first of its bytes whose parse is determined, or all of them, were answered. It took the whole answer, and was reported
    -- its end; or first bytes of it, until it took no more. It is what is open in its place now, with this answer; or nothing
    -- is, and it took the whole one.
    pub record HasOwnAnswer (input : List ℕ) (place : Option (Client C)) (before after : B) : Type 0 where
      pub received : List ℕ
      pub rest : List ℕ
      pub answer : List ℕ
      pub left : C
      pub sent : ℕ
      pub split : input ≡ received ++ rest
      pub whole : IsDetermined received ⊎ (rest ≡ [])
      pub answered : IsAnswered site book before after received answer
      pub takes : connection.contents left ≡ Some (take sent answer)
      pub stops : StopsAt connection answer left sent
      pub stays : IfSome place (λ client. (client.stream ≡ left) × (client.sent ≡ sent) × IsSomeAnd client.answer (λ a. a.items ≡ answer))
      pub goes : place ≡ None → length answer ≤ sent

    -- the first of its bytes whose parse is determined, or all of them, are a query, and this is what it asks of the content
    pub record HasOwnQuery (input : List ℕ) (before after : B) : Type 0 where
      pub received : List ℕ
      pub rest : List ℕ
      pub instance : PlanInstance
      pub split : input ≡ received ++ rest
      pub whole : IsDetermined received ⊎ (rest ≡ [])
      pub asked : IsAsked site book before after received instance

    -- one that came now with a whole request, and is serviced, has its answer or its query, unless memory runs out
    abbrev pub WholeIsAnswered : Type 0
    WholeIsAnswered =
        (now : Instant) (stream : C) (input : List ℕ) (client : Client C) (status : ConnectionStatus) (key : ℕ) (old new : Slab (Client C)) (before after : B) (seen seeing : Times)
        → ReportsAll → BringsRequest stream input → IsFresh now stream client → get old key ≡ Some client → status ≢ NoMemory
        → IsServicedAt connection site book status key old new before after seen seeing → HasOwnAnswer input (get new key) before after ⊎ HasOwnQuery input before after
