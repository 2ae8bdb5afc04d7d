use Rattle.std.proofs.Common.{drop}
use Rattle.cut_bars.specs.Reached.{AreReached}
use Rattle.cut_bars.specs.Levels.{Has, IsLevel}
use Rattle.cut_bars.proofs.bar.reached_level.Given as goal

abbrev pub invariant-loop-i : goal.invariant-loop-i
invariant-loop-i g l = IsLevel l.whole l.level × AreReached l.kerf (drop l.i l.wants) l.whole (Has g.T.Number.value l.level)
