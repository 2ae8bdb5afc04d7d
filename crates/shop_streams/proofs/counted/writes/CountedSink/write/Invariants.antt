use Rattle.std.proofs.Common.{◌≡◌}
use Rattle.std.specs.Io.KnownBytes.{Keeps}
use Rattle.shop_streams.proofs.counted.writes.CountedSink.write.Given as goal

abbrev pub invariant-loop : goal.invariant-loop
invariant-loop g l =
    record {
      count : l.self-inside.failures ≡ l.fn.self.failures;
      kept : Keeps (g.W.Write.contents l.fn.self.inner) (g.W.Write.contents l.self-inside.inner);
    }
