use Rattle.std.proofs.Common.{length}
use Rattle.shop_machine.proofs.ordering.+lines_refusal.Given as goal

abbrev pub decreases-lines_refusal : goal.decreases-lines_refusal
decreases-lines_refusal l = length l.lines.now
