use Rattle.std.proofs.Common.{length}
use Rattle.shop_machine.proofs.reserving.+is_too_many.Given as goal

abbrev pub decreases-is_too_many : goal.decreases-is_too_many
decreases-is_too_many l = length l.leaves.now
