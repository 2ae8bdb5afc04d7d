use Rattle.std.proofs.Common.{◌≡◌, length}
use Rattle.cut_classes.specs.Grids.{across_of, down_of}
use Rattle.cut_classes.specs.Filling.{AreFilledRows, rows_of}
use Rattle.cut_classes.proofs.table.filled_rows.Given as goal

abbrev pub invariant-loop-class : goal.invariant-loop-class
invariant-loop-class g l = (length l.rows.items ≡ l.class) × AreFilledRows l.wants l.kerf (down_of l.grid) (across_of l.grid) (rows_of g.T.Number.value l.rows.items)
