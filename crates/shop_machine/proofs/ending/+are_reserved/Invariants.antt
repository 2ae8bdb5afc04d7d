use Rattle.std.proofs.Common.{length}
use Rattle.shop_machine.proofs.ending.+are_reserved.Given as goal

abbrev pub decreases-are_reserved : goal.decreases-are_reserved
decreases-are_reserved l = length l.leaves.now
