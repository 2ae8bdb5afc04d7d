use Rattle.std.proofs.Common.{length}
use Rattle.shop_machine.proofs.reserving.+leaves_refusal.Given as goal

abbrev pub decreases-leaves_refusal : goal.decreases-leaves_refusal
decreases-leaves_refusal l = length l.leaves.now
