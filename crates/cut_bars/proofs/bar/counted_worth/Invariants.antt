use Rattle.std.proofs.Common.{◌≡◌, ◌+◌, drop}
use Rattle.cut_bars.specs.Counts.{worth_of_counts}
use Rattle.cut_bars.proofs.bar.counted_worth.Given as goal

abbrev pub invariant-loop-i : goal.invariant-loop-i
invariant-loop-i l = l.worth + worth_of_counts (drop l.i l.wants) (drop l.i l.counts) ≡ worth_of_counts l.wants l.counts
