use Rattle.std.proofs.Common.{List, ℕ}
use Rattle.std.specs.Io.KnownBytes.{Appends, Consumes}
use Rattle.shop_backup.proofs.backing.copy_all.Given as goal

abbrev pub invariant-loop : goal.invariant-loop
invariant-loop g l =
    (copied : List ℕ) × Consumes (g.S.Source.left l.fn.source) (g.S.Source.left l.source) copied
    × Appends (g.W.Sink.held l.fn.sink) (g.W.Sink.held l.sink) copied
