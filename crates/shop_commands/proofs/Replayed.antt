-- A replay that a fault stopped.
use Rattle.std.proofs.Common.{◌≡◌, ◌++◌, [], List, ℕ, refl, sym, ◌∙◌}
use Rattle.shop_wire.specs.Lines.{AreLines}
use Rattle.shop_wire.specs.Replays.{IsReplayedFresh}
use Rattle.shop_wire.specs.declared.faults.ReplayFault.{ReplayFault}
use Rattle.shop_wire.specs.declared.faults.ReplayFault.TheVariants as replay
use Rattle.shop_commands.specs.declared.faults.Fault.{Fault}
use Rattle.shop_commands.specs.declared.faults.Fault.TheVariants.{Read, Write}
use Rattle.shop_commands.specs.Faults.{replay_fault}
use Rattle.shop_commands.specs.Performs.{IsReplayStopped}
use Rattle.shop_commands.specs.Sinks.{SinkChange, SinkFailed}
use Rattle.shop_commands.specs.Sources.{SourceChange, SourceFailed}

-- `Read` and `Write` report of a replay's own
read_of : (g : ReplayFault) → replay_fault g ≡ Read → g ≡ replay.Read
read_of replay.Read is = refl
read_of replay.Write is = absurd (cc is)
read_of replay.NoMemory is = absurd (cc is)

write_of : (g : ReplayFault) → replay_fault g ≡ Write → g ≡ replay.Write
write_of replay.Read is = absurd (cc is)
write_of replay.Write is = refl
write_of replay.NoMemory is = absurd (cc is)

pub stopped : (input : SourceChange) (out : SinkChange) (g : ReplayFault) (fault : Fault) → fault ≡ replay_fault g
    → (lines more : List (List ℕ)) → AreLines input.left (lines ++ more) → (unwritten : List ℕ) → (g ≡ replay.Read → unwritten ≡ [])
    → IsReplayedFresh out.old out.new lines unwritten → (g ≡ replay.Read → SourceFailed input) → (g ≡ replay.Write → SinkFailed out)
    → IsReplayStopped fault input out
stopped input out g fault is lines more are unwritten all fresh unread failed =
    let read = λ (e : fault ≡ Read). read_of g (sym is ∙ e) in
    (lines, more, are, unwritten, (λ e. all (read e)), fresh, (λ e. unread (read e)), (λ e. failed (write_of g (sym is ∙ e))))
