use Rattle.std.proofs.Common.{length}
use Rattle.shop_statements.proofs.halt_texts.+see_cuts.Given as goal

abbrev pub decreases-see_cuts : goal.decreases-see_cuts
decreases-see_cuts l = length l.cuts.now
