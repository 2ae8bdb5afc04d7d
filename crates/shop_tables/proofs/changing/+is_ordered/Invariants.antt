use Rattle.std.proofs.Common.{length}
use Rattle.shop_tables.proofs.changing.+is_ordered.Given as goal

abbrev pub decreases-is_ordered : goal.decreases-is_ordered
decreases-is_ordered l = length l.demands.now
