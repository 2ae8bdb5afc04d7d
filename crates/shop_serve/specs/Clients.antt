-- Open connections: which have no answer yet, and what it is to service one.
use Rattle.std.specs.Prelude.{◌≡◌, ◌≢◌, ◌⊎◌, ◌<◌, ◌≤◌, ◌-◌, ◌*◌, ◌++◌, leb, ◌&&◌, if◌then◌else◌, ℕ, List, [], ◌∷◌, length, take, Option, Some, None, IfSome, IsSome, IsSomeAnd, Bool, true, false, is_none, is_some, count_by}
use Rattle.std.specs.Io.KnownBytes.{Appends, IsAtEnd}
use Rattle.std.specs.Time.{instant_nanos}
use Rattle.std.specs.declared.time.Instant.{Instant}
use Rattle.slab.specs.Slab.{Slab, get, slab_len, Updates, HasRoomFor}
use Rattle.shop_book.specs.declared.books.Book.{Ghosts}
use Rattle.shop_request.specs.Reading.{IsReadOn}
use Rattle.shop_request.specs.Requests.{most_request_reads}
use Rattle.shop_request.specs.Parses.{IsDetermined, IsUnfinished}
use Rattle.shop_serve.specs.declared.connections.Connection.{Ghosts as ConnectionGhosts}
use Rattle.shop_serve.specs.declared.ports.Port.{Ghosts as PortGhosts}
use Rattle.shop_serve.specs.declared.clients.ConnectionStatus.{ConnectionStatus}
use Rattle.shop_serve.specs.declared.clients.ConnectionStatus.TheVariants.{NoMemory}
use Rattle.shop_serve.specs.declared.clients.Client.{Client}
use Rattle.shop_serve.specs.declared.clients.TheConstants.{PATIENCE, MAX_CLIENTS}
use Rattle.shop_serve.specs.declared.searching.RunningTask.{RunningTask}
use Rattle.shop_planning.specs.PlanTasks.{instance_in}
use Rattle.shop_serve.specs.Making.{IsAsked}
use Rattle.shop_serve.specs.declared.sites.Site.{Site}
use Rattle.shop_serve.specs.Serving.{HasServed, IsAnsweredThen}
use Rattle.shop_serve.specs.Times.{Times, StandsUntil, ReportsNone}
use Rattle.shop_serve.specs.Clocks.{is_done}

-- what came is an unfinished request, and so is all that goes on from it with fewer bytes than are needed
pub record AwaitsMore (received : List ℕ) (needed : ℕ) : Type 0 where
  pub here : IsUnfinished received
  pub later : (more : List ℕ) → length (received ++ more) < needed → IsUnfinished (received ++ more)

-- a query has had a search step
abbrev pub was_stepped : Option RunningTask → Bool
was_stepped None = false
was_stepped (Some searching) = is_some searching.last

module _ {C : Type 0} where
  -- a connection that is open and has no answer yet, and no query
  abbrev pub is_unanswered : Option (Client C) → Bool
  is_unanswered None = false
  is_unanswered (Some client) = is_none client.answer && is_none client.task

  -- how many of these connections have no answer yet, and no query
  abbrev pub unanswered : Slab (Client C) → ℕ
  unanswered clients = count_by is_unanswered clients.slots

  abbrev pub is_begun : Client C → Bool
  is_begun client = was_stepped client.task

  -- it had its seconds, from the time when it was accepted or its answer was made; a query has none
  abbrev pub is_late : Instant → Client C → Bool
  is_late now client = is_none client.task && leb (PATIENCE * 1000000000) (instant_nanos now - instant_nanos client.since)

  -- a connection of this key has a query
  abbrev pub AsksAt : Slab (Client C) → ℕ → Type 0
  AsksAt clients key = (client : Client C) × (get clients key ≡ Some client) × IsSome client.task

  -- none has one
  abbrev pub NoneAsks : Slab (Client C) → Type 0
  NoneAsks clients = (key : ℕ) → AsksAt clients key → ⊥

  -- a connection, unless it had its time
  abbrev pub in_time : Instant → Option (Client C) → Option (Client C)
  in_time now None = None
  in_time now (Some client) = if is_late now client then None else Some client

  -- those that had their time are closed, and no others
  abbrev pub ClosesLate : Instant → Slab (Client C) → Slab (Client C) → Type 0
  ClosesLate now old new = (key : ℕ) → get new key ≡ in_time now (get old key)

  -- it took its whole answer
  abbrev pub IsSpent : Client C → Type 0
  IsSpent client = IsSomeAnd client.answer (λ answer. length answer.items ≤ client.sent)

  -- no answer of it is on its way: it has none yet, and its query has had no search step; or it took all of it
  abbrev pub MayGo : Client C → Type 0
  MayGo client = ((client.answer ≡ None) × (is_begun client ≡ false)) ⊎ IsSpent client

  -- each that is open has an answer on its way, or its query has had a search step
  abbrev pub NoneMayGo : Slab (Client C) → Type 0
  NoneMayGo clients = (key : ℕ) (client : Client C) → get clients key ≡ Some client → MayGo client → ⊥

  -- The connection of this key may go, and is the oldest that may: no other that may was accepted, or got its answer, before it.
  pub record IsOldest (clients : Slab (Client C)) (key : ℕ) : Type 0 where
    pub client : Client C
    pub there : get clients key ≡ Some client
    pub goes : MayGo client
    pub first : (other : ℕ) (another : Client C) → get clients other ≡ Some another → MayGo another → instant_nanos client.since ≤ instant_nanos another.since

  -- one connection more may be open, be it in another's place
  abbrev pub CanOpenOne : Slab (Client C) → Type 0
  CanOpenOne clients = (slab_len clients < MAX_CLIENTS) ⊎ ((key : ℕ) × IsOldest clients key)

  -- as many are open as may be, or the port has no descriptor left
  abbrev pub IsFull : (is_scarce : Bool) → Slab (Client C) → Type 0
  IsFull is_scarce clients = (MAX_CLIENTS ≤ slab_len clients) ⊎ (is_scarce ≡ true)

  -- None is closed while fewer than may be are open, and the port has descriptors, or none may go; else the oldest that may go is,
  -- and no other.
  abbrev pub EvictsOldest : (is_scarce : Bool) → Slab (Client C) → Slab (Client C) → Type 0
  EvictsOldest is_scarce old new =
      ((slab_len old < MAX_CLIENTS) × (is_scarce ≡ true → NoneMayGo old) × (new.slots ≡ old.slots))
      ⊎ (IsFull is_scarce old × (key : ℕ) × IsOldest old key × Updates old new key None)

  -- It isn't opened, though room was made: it can't be registered, or memory for one more runs out.
  pub record IsTurnedAway {P : Type 0} (port : PortGhosts P C) (at : P) (old new : Slab (Client C)) : Type 0 where
    pub cleared : Slab (Client C)
    pub made : EvictsOldest (port.is_scarce at) old cleared
    pub same : new.slots ≡ cleared.slots
    pub why : ((p : P) × port.is_deaf p) ⊎ (HasRoomFor cleared 1 → ⊥)

  -- it was accepted now: nothing came of it, and it has no query and no answer
  pub record IsFresh (now : Instant) (stream : C) (client : Client C) : Type 0 where
    pub own : client.stream ≡ stream
    pub since : client.since ≡ now
    pub received : client.received.items ≡ []
    pub needed : client.needed ≡ 0
    pub asks : client.task ≡ None
    pub waits : client.answer ≡ None

  -- it is open under a key that was free, once room was made for it, and is registered under this key
  pub record IsOpened {P : Type 0} (port : PortGhosts P C) (at : P) (now : Instant) (stream : C) (key : ℕ) (old new : Slab (Client C)) : Type 0 where
    pub cleared : Slab (Client C)
    pub made : EvictsOldest (port.is_scarce at) old cleared
    pub client : Client C
    pub fresh : IsFresh now stream client
    pub free : get cleared key ≡ None
    pub there : Updates cleared new key (Some client)
    pub registered : (p : P) × port.is_registered p stream key

-- a connection took the bytes of its answer from one place to another, and no others
abbrev pub TakesAnswer : {C : Type 0} → ConnectionGhosts C → List ℕ → C → ℕ → C → ℕ → Type 0
TakesAnswer connection answer old sent new more =
    (before : Option (List ℕ)) → Appends before (connection.contents old) (take sent answer) → Appends before (connection.contents new) (take more answer)

-- where a connection stops that takes its answer: after the last byte, and it was reported that this is the end; or before, as it
-- takes no more
abbrev pub StopsAt : {C : Type 0} → ConnectionGhosts C → List ℕ → C → ℕ → Type 0
StopsAt connection answer new sent = ((sent ≡ length answer) × connection.has_ended new) ⊎ ((sent < length answer) × connection.is_full new)

-- Why no request can come of a connection: it is lost; or it ended before a byte came; or more came than of any request.
abbrev pub IsMute : {C : Type 0} → ConnectionGhosts C → C → List ℕ → C → List ℕ → Type 0
IsMute connection old before new after =
    connection.is_lost new
    ⊎ (IsReadOn (connection.remaining old) (connection.remaining new) before after
    × ((after ≡ []) × IsAtEnd (connection.remaining new) ⊎ (most_request_reads ≤ length after)))

-- Nothing more is to come of it: its input ended, or it is lost; or its request was read to the last byte and done.
abbrev pub IsOver : {C : Type 0} → ConnectionGhosts C → Client C → Type 0
IsOver connection client =
    IsAtEnd (connection.remaining client.stream)
    ⊎ (connection.is_lost client.stream ⊎ IsSomeAnd client.answer (λ answer. is_done answer.items ≡ true))

module _ {C : Type 0} (connection : ConnectionGhosts C) (site : Site) {B : Type 0} (book : Ghosts B) where
  -- A connection with an answer: it keeps it, takes more of it, to its end, which it is given, or until it takes no more, and
  -- nothing else is done. Its seconds go on.
  pub record IsHandedOn (old new : Client C) (before after : B) (seen seeing : Times) (answer : List ℕ) : Type 0 where
    pub same : after ≡ before
    pub unread : ReportsNone seen seeing
    pub since : new.since ≡ old.since
    pub received : new.received ≡ old.received
    pub asks : new.task ≡ old.task
    pub kept : new.answer ≡ old.answer
    pub takes : TakesAnswer connection answer old.stream old.sent new.stream new.sent
    pub stops : StopsAt connection answer new.stream new.sent

  -- The answer to all that came of a connection, once that was whole or at its end. It took all of it, and was given its end; or its
  -- first bytes, until it took no more. The time stood still meanwhile; its seconds begin anew, at the time that is reported then.
  pub record IsAnsweredWhole (old new : Client C) (rest : Option (List ℕ)) (before after : B) (seen seeing : Times) (answer : List ℕ) : Type 0 where
    pub whole : IsDetermined new.received.items ⊎ IsAtEnd rest
    pub answered : IsAnsweredThen site book before after seen seeing new.since new.received.items answer
    pub takes : TakesAnswer connection answer old.stream 0 new.stream new.sent
    pub stops : StopsAt connection answer new.stream new.sent

  -- The query that is all that came of a connection, once that was whole or at its end: this is what it asks of the content.
  -- It waits for its search, since the time that is reported then, which stood still meanwhile. Nothing is done, and the connection took
  -- nothing.
  pub record IsBegunWhole (old new : Client C) (rest : Option (List ℕ)) (before after : B) (seen seeing : Times) (searching : RunningTask) : Type 0 where
    pub since : StandsUntil seen seeing new.since
    pub whole : IsDetermined new.received.items ⊎ IsAtEnd rest
    pub asked : IsAsked site book before after new.received.items (instance_in searching.task)
    pub waits : searching.last ≡ None
    pub none : new.answer ≡ None
    pub took : connection.contents new.stream ≡ connection.contents old.stream

  -- A connection whose query is searched: it keeps that and waits, and what still came of it was dropped. Nothing is done.
  pub record IsInputDiscarded (old new : Client C) (before after : B) (seen seeing : Times) : Type 0 where
    pub same : after ≡ before
    pub unread : ReportsNone seen seeing
    pub kept : new ≡ record old { stream = new.stream }
    pub took : connection.contents new.stream ≡ connection.contents old.stream

  -- It has no answer yet and took nothing, nothing is done, and nothing more came of it. What came is still an unfinished
  -- request, where it was one before. Its seconds go on, whatever came.
  pub record IsLeftWaiting (old new : Client C) (before after : B) (seen seeing : Times) : Type 0 where
    pub same : after ≡ before
    pub unread : ReportsNone seen seeing
    pub since : new.since ≡ old.since
    pub took : connection.contents new.stream ≡ connection.contents old.stream
    pub drained : connection.is_drained new.stream
    pub read : IsReadOn (connection.remaining old.stream) (connection.remaining new.stream) old.received.items new.received.items
    pub awaits : AwaitsMore old.received.items old.needed → AwaitsMore new.received.items new.needed

  -- A connection without an answer and a query: what came of it goes on by what it gave. It is left waiting, or it is answered,
  -- or its query is begun.
  pub record IsHeard (old new : Client C) (before after : B) (seen seeing : Times) : Type 0 where
    pub rest : Option (List ℕ)
    pub read : IsReadOn (connection.remaining old.stream) rest old.received.items new.received.items
    pub waits : new.answer ≡ None → new.task ≡ None → IsLeftWaiting old new before after seen seeing
    pub begun : IfSome new.task (IsBegunWhole old new rest before after seen seeing)
    pub answered : IfSome new.answer (λ answer. IsAnsweredWhole old new rest before after seen seeing answer.items)

  -- a connection was serviced, and stays open
  abbrev pub IsServiced : Client C → Client C → B → B → (seen seeing : Times) → Type 0
  IsServiced old new before after seen seeing =
      IfSome old.answer (λ answer. IsHandedOn old new before after seen seeing answer.items)
      × (old.answer ≡ None → IsSome old.task → IsInputDiscarded old new before after seen seeing)
      × (old.answer ≡ None → old.task ≡ None → IsHeard old new before after seen seeing)

  -- No request can come of it, or it can't take its answer: it is lost, or reported to have taken more than that.
  abbrev pub IsSpoiled : Client C → Client C → Type 0
  IsSpoiled old new =
      ((old.answer ≡ None) × (old.task ≡ None) × IsMute connection old.stream old.received.items new.stream new.received.items)
      ⊎ IsSomeAnd old.answer (λ answer. connection.is_lost new.stream ⊎ (length answer.items < old.sent))
      ⊎ IsSome old.task × connection.is_lost new.stream

  -- Why a connection is closed that is serviced: it took its whole answer, and nothing more is to come of it; or it is spoiled; or
  -- memory ran out.
  abbrev pub IsClosedBy : ConnectionStatus → Client C → B → B → (seen seeing : Times) → Type 0
  IsClosedBy status client before after seen seeing =
      (status ≡ NoMemory) ⊎ ((left : Client C) × (IsServiced client left before after seen seeing × IsSpent left × IsOver connection left ⊎ IsSpoiled client left))

  -- The connection of a key was serviced, if there is one, and is closed or stays; no other was. At most one request was
  -- served, and none where it had an answer or a query.
  pub record IsServicedAt (status : ConnectionStatus) (key : ℕ) (old new : Slab (Client C)) (before after : B) (seen seeing : Times) : Type 0 where
    pub others : (other : ℕ) → other ≢ key → get new other ≡ get old other
    pub absent : get old key ≡ None → (get new key ≡ None) × (after ≡ before)
    pub there : (client : Client C) → get old key ≡ Some client → IfSome (get new key) (λ left. IsServiced client left before after seen seeing)
    pub closed : (client : Client C) → get old key ≡ Some client → get new key ≡ None → IsClosedBy status client before after seen seeing
    pub once : (client : Client C) → get old key ≡ Some client → is_unanswered (Some client) ≡ false → after ≡ before
    pub one : HasServed site book before after 1
    pub clean_disk : book.has_clean_disk after → book.has_clean_disk before

  -- the connections of these keys were serviced, one after another
  abbrev pub AreServiced : List ℕ → Slab (Client C) → Slab (Client C) → B → B → (seen seeing : Times) → Type 0
  AreServiced [] old new before after seen seeing = (new ≡ old) × (after ≡ before) × ReportsNone seen seeing
  AreServiced (key ∷ keys) old new before after seen seeing =
      (status : ConnectionStatus) × (clients : Slab (Client C)) × (mid : B) × (between : Times) × IsServicedAt status key old clients before mid seen between
      × AreServiced keys clients new mid after between seeing
