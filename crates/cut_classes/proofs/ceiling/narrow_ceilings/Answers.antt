use Rattle.std.proofs.Common.{arith}
use Rattle.cut_classes.specs.Grids.{across_of, down_of}
use Rattle.cut_classes.specs.Filling.{rows_of}
use Rattle.cut_classes.proofs.FilledTables.{filled_least}
use Rattle.cut_classes.proofs.RaisedRows.{count_rows}
use Rattle.cut_classes.proofs.ceiling.narrow_ceilings.Goals as goal

pub returns : goal.returns
returns c =
    let rows = c.in_ok-rows.rows.items in
    filled_least c.args.wants.now c.args.kerf (down_of c.args.grid.now) (across_of c.args.grid.now) (rows_of (λ v. v) rows) c.requires.usable.down c.requires.usable.across c.requires.counted
    (omega (arith, count_rows (λ v. v) rows, c.in_ok-rows.ensures.len)) c.in_ok-rows.ensures.rows
