use Rattle.std.proofs.Common.{length, map, subst, arith}
use Rattle.cut_classes.specs.Grids.{across_of, down_of}
use Rattle.cut_classes.specs.Filling.{IsFilledRow, rows_of}
use Rattle.cut_classes.proofs.FilledTables.{next_vec}
use Rattle.cut_classes.proofs.table.filled_rows.Goals as goal

pub loop-class-preserved : goal.loop-class-preserved
loop-class-preserved g c =
    let f = g.T.Number.value in
    let xs = down_of c.args.grid.now in
    let ys = across_of c.args.grid.now in (
      omega (arith, c.in_ok-push.ensures.len, c.loop-class.invariant.0),
      next_vec f c.args.wants.now c.args.kerf xs ys c.loop-class.rows.items c.push.new.self.items c.in_ok-row.row
          (subst (λ l. IsFilledRow c.args.wants.now c.args.kerf xs ys (rows_of f l) (map f c.in_ok-row.row.items) (length l)) c.deref-in-loop-class-2.ensures.value c.in_ok-row.ensures) c.in_ok-push.ensures.items c.loop-class.invariant.1,
    )
