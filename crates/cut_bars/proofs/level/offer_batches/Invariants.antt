use Rattle.std.proofs.Common.{◌-◌, ◌≤◌}
use Rattle.cut_bars.specs.Reached.{AreOffered}
use Rattle.cut_bars.specs.Levels.{Has, IsLevel}
use Rattle.cut_bars.proofs.level.offer_batches.Given as goal

abbrev pub invariant-loop-taken : goal.invariant-loop-taken
invariant-loop-taken g l = (l.taken ≤ l.most) × IsLevel l.whole l.offered × AreOffered l.piece.span l.piece.worth l.taken l.whole (Has g.T.Number.value l.fn.base) (Has g.T.Number.value l.offered)

abbrev pub decreases-loop-taken : goal.decreases-loop-taken
decreases-loop-taken g l = l.most - l.taken
