use Rattle.std.proofs.Common.{length}
use Rattle.shop_problems.proofs.steps.+shortest.Given as goal

abbrev pub decreases-shortest : goal.decreases-shortest
decreases-shortest l = length l.pieces.now
