use Rattle.std.proofs.Common.{◌≡◌, ◌+◌, length}
use Rattle.cut_sheets.specs.Table.{AreBestRows, AreUseful}
use Rattle.cut_sheets.proofs.sheet.best_rows.Given as goal

abbrev pub invariant-loop : goal.invariant-loop
invariant-loop g l =
    (length l.rows.items ≡ l.counter) × (length l.useful.items ≡ l.counter) × AreBestRows g.T.Number.value l.wants (l.width + 1) l.rows.items
    × AreUseful l.wants (l.width + 1) l.useful.items
