use Rattle.std.proofs.Common.{◌-◌, ◌+◌, ◌≤◌, length}
use Rattle.cut_bars.specs.Levels.{AreJoined, AreUpTo}
use Rattle.cut_bars.proofs.reach.join.Given as goal

abbrev pub invariant-loop-kept : goal.invariant-loop-kept
invariant-loop-kept l =
    (l.moved ≤ l.kept) × (l.kept ≤ length l.entries) × AreJoined l.batch.span l.batch.worth l.entries l.kept l.moved l.joined.items × AreUpTo l.entries l.joined.items

abbrev pub decreases-loop-kept : goal.decreases-loop-kept
decreases-loop-kept l = length l.entries + length l.entries - l.kept - l.moved
