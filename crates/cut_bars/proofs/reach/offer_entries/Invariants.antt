use Rattle.std.proofs.Common.{◌-◌, ◌≤◌, length}
use Rattle.std.specs.Prelude.{Contains}
use Rattle.cut_bars.specs.declared.reach.Entry.{Entry}
use Rattle.cut_bars.specs.Levels.{AreJoined}
use Rattle.cut_bars.proofs.reach.offer_entries.Given as goal

abbrev pub invariant-loop-moved : goal.invariant-loop-moved
invariant-loop-moved l =
    (l.moved ≤ length l.entries) × AreJoined l.batch.span l.batch.worth l.entries (length l.entries) l.moved l.offered.items
    × ((e : Entry) → Contains l.offered.items e → e.span ≤ l.whole)

abbrev pub decreases-loop-moved : goal.decreases-loop-moved
decreases-loop-moved l = length l.entries - l.moved
