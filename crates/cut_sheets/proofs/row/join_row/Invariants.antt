use Rattle.std.proofs.Common.{map}
use Rattle.cut_sheets.proofs.JoinedRows.{JoinedBelow}
use Rattle.cut_sheets.proofs.row.join_row.Given as goal

-- what stands below the part is joined
abbrev pub invariant-loop-part : goal.invariant-loop-part
invariant-loop-part g l = JoinedBelow g.T.Number.limit (map g.T.Number.value l.initial.row) (map g.T.Number.value l.row) l.part
