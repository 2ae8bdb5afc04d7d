use Rattle.std.proofs.Common.{take, map}
use Rattle.cut_sheets.specs.Table.{IsPlainRow}
use Rattle.cut_sheets.proofs.sheet.fill_plain.Given as goal

abbrev pub invariant-loop-want : goal.invariant-loop-want
invariant-loop-want g l = IsPlainRow (take l.want-index l.wants) l.height (map g.T.Number.value l.row)
