use Rattle.std.proofs.Common.{length}
use Rattle.shop_tables.proofs.changing.+uses_of.Given as goal

abbrev pub decreases-uses_of : goal.decreases-uses_of
decreases-uses_of l = length l.demands.now
