use Rattle.std.proofs.Common.{◌-◌, ◌<◌, ◌≤◌, slice_index}
use Rattle.cut_classes.proofs.pairs.reach.Given as goal

abbrev pub invariant-loop-reach : goal.invariant-loop-reach
invariant-loop-reach l = (l.from ≤ l.reach) × (l.reach ≤ l.count) × (l.from < l.reach → slice_index l.points (l.reach - 1) ≤ l.span)

abbrev pub decreases-loop-reach : goal.decreases-loop-reach
decreases-loop-reach l = l.count - l.reach
