use Rattle.std.proofs.Common.{map}
use Rattle.cut_classes.specs.Grids.{across_of, down_of}
use Rattle.cut_classes.proofs.FilledRows.{IsJoinedTo}
use Rattle.cut_classes.proofs.row.join_row.Given as goal

abbrev pub invariant-loop-at : goal.invariant-loop-at
invariant-loop-at g l = IsJoinedTo l.wants l.kerf (down_of l.grid) (across_of l.grid) (map g.T.Number.value l.initial.row) (map g.T.Number.value l.row) l.class l.at
