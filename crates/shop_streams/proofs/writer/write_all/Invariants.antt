use Rattle.std.proofs.Common.{◌≡◌, ◌++◌, List, ℕ, length}
use Rattle.std.specs.Io.KnownBytes.{Appends}
use Rattle.shop_streams.proofs.writer.write_all.Given as goal

abbrev pub invariant-loop-rest : goal.invariant-loop-rest
invariant-loop-rest g l =
    (done : List ℕ) × Appends (g.W.Sink.held l.fn.sink) (g.W.Sink.held l.sink) done × (done ++ l.rest ≡ l.bytes)
    × (g.W.Sink.failed l.sink ≡ g.W.Sink.failed l.fn.sink)

abbrev pub decreases-loop-rest : goal.decreases-loop-rest
decreases-loop-rest g l = length l.rest
