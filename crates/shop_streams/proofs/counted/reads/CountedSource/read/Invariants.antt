use Rattle.std.proofs.Common.{◌≡◌}
use Rattle.std.specs.Io.KnownBytes.{Keeps}
use Rattle.shop_streams.specs.Streams.{one_more}
use Rattle.shop_streams.proofs.counted.reads.CountedSource.read.Given as goal

abbrev pub invariant-loop : goal.invariant-loop
invariant-loop g l =
    record {
      count : l.self-inside.failures ≡ l.fn.self.failures;
      reads : l.self-inside.reads ≡ one_more l.fn.self.reads;
      kept : Keeps (g.R.Read.remaining l.fn.self.inner) (g.R.Read.remaining l.self-inside.inner);
    }
