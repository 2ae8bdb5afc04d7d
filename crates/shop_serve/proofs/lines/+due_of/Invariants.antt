use Rattle.std.proofs.Common.{length}
use Rattle.shop_serve.proofs.lines.+due_of.Given as goal

abbrev pub decreases-due_of : goal.decreases-due_of
decreases-due_of l = length l.known.now
