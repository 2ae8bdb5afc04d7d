use Rattle.std.proofs.Common.{◌≡◌, ◌+◌, drop}
use Rattle.cut_plan.specs.Sheets.{dropped_of}
use Rattle.cut_plan.proofs.sheets.dropped_of.Given as goal

abbrev pub invariant-loop-i : goal.invariant-loop-i
invariant-loop-i l = l.dropped + dropped_of (drop l.i l.wants) (drop l.i l.counts) ≡ dropped_of l.wants l.counts
