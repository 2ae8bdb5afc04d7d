-- What was written on a sink, and how its failures were counted.
use Rattle.std.specs.Prelude.{◌≡◌, ◌⊎◌, ℕ, List, ◌++◌, Option}
use Rattle.std.specs.Io.KnownBytes.{Appends}
use Rattle.shop_streams.specs.declared.streams.Sink.{Ghosts}
use Rattle.shop_streams.specs.Streams.{HasFailed}

-- what a sink held and how often a write had failed, before and after
pub record SinkChange : Type 0 where
  pub old : Option (List ℕ)
  pub new : Option (List ℕ)
  pub failed_old : ℕ
  pub failed_new : ℕ

-- the change from one state of a sink to another
abbrev pub change_of : {W : Type 0} → Ghosts W → (before after : W) → SinkChange
change_of sink before after =
    record { old = sink.held before; new = sink.held after; failed_old = sink.failed before; failed_new = sink.failed after }

-- a text was written
abbrev pub Adds : SinkChange → List ℕ → Type 0
Adds out text = Appends out.old out.new text

-- nothing was written
abbrev pub AddsNone : SinkChange → Type 0
AddsNone out = out.new ≡ out.old

-- some bytes were written
abbrev pub AddsSome : SinkChange → Type 0
AddsSome out = (bytes : List ℕ) × Adds out bytes

-- the first bytes of a text were written, or all
abbrev pub AddsPrefix : SinkChange → List ℕ → Type 0
AddsPrefix out text = (done rest : List ℕ) × (done ++ rest ≡ text) × Adds out done

-- a write failed
abbrev pub SinkFailed : SinkChange → Type 0
SinkFailed out = HasFailed out.failed_old out.failed_new

-- a text was written; or the sink failed, and the first bytes of the text were
abbrev pub IsWritten : SinkChange → List ℕ → Type 0
IsWritten out text = Adds out text ⊎ (AddsPrefix out text × SinkFailed out)
