use Rattle.std.proofs.Common.{length}
use Rattle.cut_bars.proofs.bar.+fill_counts.Given as goal

abbrev pub decreases-fill_counts : goal.decreases-fill_counts
decreases-fill_counts l = length l.wants.now
