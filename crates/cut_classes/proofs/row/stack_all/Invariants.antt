use Rattle.std.proofs.Common.{length, map, take}
use Rattle.cut_classes.specs.Grids.{across_of, down_of}
use Rattle.cut_classes.specs.Filling.{IsPieceRow, rows_of}
use Rattle.cut_classes.proofs.FilledRows.{IsOverPairs}
use Rattle.cut_classes.proofs.row.stack_all.Given as goal

abbrev pub invariant-loop-pair : goal.invariant-loop-pair
invariant-loop-pair g l =
    IsPieceRow l.wants l.kerf (down_of l.grid) (across_of l.grid) (map g.T.Number.value l.row) (length l.rows)
    × IsOverPairs (down_of l.grid) (rows_of g.T.Number.value l.rows) (take l.pair-index l.pairs) (map g.T.Number.value l.row)
