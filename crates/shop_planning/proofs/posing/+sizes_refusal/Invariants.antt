use Rattle.std.proofs.Common.{length}
use Rattle.shop_planning.proofs.posing.+sizes_refusal.Given as goal

abbrev pub decreases-sizes_refusal : goal.decreases-sizes_refusal
decreases-sizes_refusal l = length l.buy.now
