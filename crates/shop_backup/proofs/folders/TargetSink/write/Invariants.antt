use Rattle.std.proofs.Common.{◌≡◌}
use Rattle.std.specs.Io.KnownBytes.{Keeps}
use Rattle.shop_backup.proofs.folders.TargetSink.write.Given as goal

abbrev pub invariant-loop : goal.invariant-loop
invariant-loop g l =
    record {
      count : l.self.failures ≡ l.fn.self.failures;
      kept : Keeps (g.F.Write.contents l.fn.self.file) (g.F.Write.contents l.self.file);
    }
