-- What a port reports: which connection an event is about, and which one a call gave.
use Rattle.std.specs.Prelude.{ℕ, List, [], ◌∷◌, Option, Some, Result, Ok}
use Rattle.mio.specs.Event.{event_token}
use Rattle.mio.specs.declared.event.event.Event.{Event}

-- the key of the connection that an event is about
abbrev pub key_of : Event → ℕ
key_of event = (event_token event).0

-- what a call gave, if anything
abbrev pub given_by : {X E : Type 0} → Result (Option X) E → List X
given_by (Ok (Some x)) = x ∷ []
given_by _ = []
