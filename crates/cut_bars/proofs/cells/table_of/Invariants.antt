use Rattle.std.proofs.Common.{◌≡◌, ◌+◌, length, map, take}
use Rattle.std.specs.Prelude.{Contains, ◌↔◌}
use Rattle.cut_bars.specs.declared.reach.Entry.{Entry}
use Rattle.cut_bars.specs.Levels.{HasCell}
use Rattle.cut_bars.proofs.cells.table_of.Given as goal

abbrev pub invariant-loop-entry : goal.invariant-loop-entry
invariant-loop-entry g l =
    (length l.cells.items ≡ l.whole + 1) × ((e : Entry) → HasCell (map g.T.Number.value l.cells.items) e ↔ Contains (take l.entry-index l.entries) e)
