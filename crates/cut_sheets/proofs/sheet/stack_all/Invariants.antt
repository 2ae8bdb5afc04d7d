use Rattle.std.proofs.Common.{map}
use Rattle.cut_sheets.proofs.SheetTables.{TriedRow}
use Rattle.cut_sheets.proofs.sheet.stack_all.Given as goal

abbrev pub invariant-loop-a : goal.invariant-loop-a
invariant-loop-a g l = TriedRow l.wants l.a l.height (map g.T.Number.value l.row)
