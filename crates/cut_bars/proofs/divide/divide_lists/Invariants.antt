use Rattle.std.proofs.Common.{◌+◌, ◌-◌, ◌≤◌, length}
use Rattle.std.specs.Prelude.{Contains}
use Rattle.cut_bars.proofs.DividedSpans.{IsAfter, IsDivided, IsFrom}
use Rattle.cut_bars.proofs.divide.divide_lists.Given as goal

abbrev pub invariant-loop-left : goal.invariant-loop-left
invariant-loop-left l =
    (l.left ≤ length l.prefix) × (l.next ≤ length l.back) × IsAfter l.whole l.prefix l.back l.left l.next l.after
    × IsDivided l.whole 0 (Contains l.prefix) (Contains l.back) (IsFrom l.prefix l.left) l.found

abbrev pub decreases-loop-left : goal.decreases-loop-left
decreases-loop-left l = l.left + length l.back - l.next
