-- The rounds of a server: which connections a port reports and gives, and what is done with them.
use Rattle.std.specs.Prelude.{◌≡◌, ◌≤◌, ◌⊎◌, ℕ, List, [], ◌∷◌, length, Option, None, true}
use Rattle.std.specs.List.{flat_map}
use Rattle.slab.specs.Slab.{Slab, get, slab_len}
use Rattle.std.specs.declared.time.Instant.{Instant}
use Rattle.shop_book.specs.declared.books.Book.{Ghosts}
use Rattle.shop_serve.specs.declared.connections.Connection.{Ghosts as ConnectionGhosts}
use Rattle.shop_serve.specs.declared.ports.Port.{Ghosts as PortGhosts}
use Rattle.shop_serve.specs.declared.clients.Client.{Client}
use Rattle.shop_serve.specs.declared.clients.TheConstants.{MAX_CLIENTS}
use Rattle.shop_serve.specs.declared.sites.Site.{Site}
use Rattle.shop_serve.specs.Times.{Adds, Looks, Times, Reports, ReportsNone}
use Rattle.shop_serve.specs.Clients.{AreServiced, ClosesLate, IsOpened, IsTurnedAway}
use Rattle.shop_serve.specs.RunningTask.{StepsSearch}

-- a round of a server: the keys that were reported, when those that had their time were closed, and the connections that came
pub record Round (C : Type 0) : Type 0 where
  pub now : Instant
  pub keys : List ℕ
  pub arrived : List C

abbrev pub all_keys : {C : Type 0} → List (Round C) → List ℕ
all_keys = flat_map (λ r. r.keys)

abbrev pub all_arrived : {C : Type 0} → List (Round C) → List C
all_arrived = flat_map (λ r. r.arrived)

module _ {C : Type 0} {P : Type 0} (port : PortGhosts P C) where
  -- a connection that came is opened, or it is turned away; the time is read
  abbrev pub IsReceived : C → Slab (Client C) → Slab (Client C) → (seen seeing : Times) → Type 0
  IsReceived stream old new seen seeing =
      (now : Instant) × (at : P) × Reports seen seeing now
      × (IsTurnedAway port at old new ⊎ ((key : ℕ) × IsOpened port at now stream key old new))

  -- these came, one after another
  abbrev pub AreReceived : List C → Slab (Client C) → Slab (Client C) → (seen seeing : Times) → Type 0
  AreReceived [] old new seen seeing = (new ≡ old) × ReportsNone seen seeing
  AreReceived (stream ∷ streams) old new seen seeing =
      (clients : Slab (Client C)) × (between : Times) × IsReceived stream old clients seen between × AreReceived streams clients new between seeing

module _ {C : Type 0} (connection : ConnectionGhosts C) (site : Site) {B : Type 0} (book : Ghosts B) {P : Type 0} (port : PortGhosts P C) where
  -- Those that are reported are serviced, one after another; the time is read, and those that had theirs are closed; a query
  -- takes one search step, where there is any; those that come are received, and nothing is done for them before the next round.
  pub record IsRound (round : Round C) (old new : Slab (Client C)) (before after : B) (seen seeing : Times) : Type 0 where
    pub serviced : Slab (Client C)
    pub mid : B
    pub first : Times
    pub each : AreServiced connection site book round.keys old serviced before mid seen first
    pub kept : Slab (Client C)
    pub second : Times
    pub read : Reports first second round.now
    pub late : ClosesLate round.now serviced kept
    pub task : Slab (Client C)
    pub third : Times
    pub steps_search : StepsSearch connection site book round.now kept task mid after second third
    pub received : AreReceived port round.arrived task new third seeing

  -- round after round; before each it was looked, and the store's names led to the files that are open
  abbrev pub AreRounds : List (Round C) → Slab (Client C) → Slab (Client C) → B → B → (seen seeing : Times) → Type 0
  AreRounds [] old new before after seen seeing = (new ≡ old) × (after ≡ before) × ReportsNone seen seeing
  AreRounds (round ∷ rounds) old new before after seen seeing =
      (clients : Slab (Client C)) × (mid : B) × (between : Times) × ((looked : Times) × Looks seen looked true × IsRound round old clients before mid looked between)
      × AreRounds rounds clients new mid after between seeing

  -- where none is open at first, no more are after the rounds than may be
  abbrev pub FewAreOpen : Type 0
  FewAreOpen =
      (rounds : List (Round C)) (first last : Slab (Client C)) (before after : B) (seen seeing : Times) → AreRounds rounds first last before after seen seeing
      → ((key : ℕ) → get first key ≡ None) → slab_len last ≤ MAX_CLIENTS

  -- As many connections came as the limit says, and each is closed: each key that was reported was serviced, round after round,
  -- and each connection that was given was received. The time was read where that says so, and nowhere else.
  pub record HasServedAll (limit : ℕ) (earlier later : Option (List ℕ)) (given giving : Option (List C)) (before after : B) (seen seeing : Times) : Type 0 where
    pub rounds : List (Round C)
    pub first : Slab (Client C)
    pub last : Slab (Client C)
    pub run : AreRounds rounds first last before after seen seeing
    pub none : (key : ℕ) → get first key ≡ None
    pub closed : (key : ℕ) → get last key ≡ None
    pub count : length (all_arrived rounds) ≡ limit
    pub reported : Adds earlier later (all_keys rounds)
    pub arrived : Adds given giving (all_arrived rounds)
