use Rattle.std.proofs.Common.{◌<◌, map}
use Rattle.std.specs.Prelude.{Contains, ◌↔◌}
use Rattle.cut_bars.specs.declared.reach.Entry.{Entry}
use Rattle.cut_bars.specs.Reached.{AreRising}
use Rattle.cut_bars.specs.Levels.{HasCell}
use Rattle.cut_bars.proofs.cells.list_of.Given as goal

abbrev pub invariant-loop-i : goal.invariant-loop-i
invariant-loop-i g l = AreRising l.entries.items × ((e : Entry) → (HasCell (map g.T.Number.value l.cells) e × (e.span < l.i)) ↔ Contains l.entries.items e)
