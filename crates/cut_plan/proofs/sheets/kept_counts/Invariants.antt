use Rattle.std.proofs.Common.{◌≡◌, ◌++◌, drop}
use Rattle.cut_plan.specs.Sheets.{kept_counts}
use Rattle.cut_plan.proofs.sheets.kept_counts.Given as goal

abbrev pub invariant-loop-i : goal.invariant-loop-i
invariant-loop-i l = l.kept.items ++ kept_counts (drop l.i l.wants) (drop l.i l.counts) ≡ kept_counts l.wants l.counts
