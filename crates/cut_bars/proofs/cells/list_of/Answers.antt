use Rattle.std.proofs.Common.{◌-◌, map, arith}
use Rattle.cut_wants.proofs.NumberRows.{same_length, value_at}
use Rattle.cut_bars.proofs.RaisedCells.{cell_within, listed_more, listed_skip}
use Rattle.cut_bars.proofs.cells.list_of.Goals.{then-cell-ne0+in_ok-push, else-cell-ne0}
use Rattle.cut_bars.proofs.cells.list_of.Goals as goal

pub loop-i-preserved : goal.loop-i-preserved
loop-i-preserved g c =
    let f = g.T.Number.value in
    let here = value_at f c.args.cells.now c.loop-i.i c.index-cells-i.result (omega arith) c.index-cells-i.is in
    elim c.if-cell-ne0.branch [
      | then-cell-ne0+in_ok-push w ↦
          rw w.entries-is
          (rw w.in_ok-push.ensures.items (listed_more (map f c.args.cells.now) c.loop-i.i (c.worth-cell.result - 1) c.loop-i.entries.items c.loop-i.invariant (omega (arith, here, c.worth-cell.ensures))))
      | else-cell-ne0 w ↦ rw w.entries-is (listed_skip (map f c.args.cells.now) c.loop-i.i c.loop-i.entries.items c.loop-i.invariant (omega (arith, here, c.worth-cell.ensures)))
    ]

pub returns-clause-same : goal.returns-clause-same
returns-clause-same g c = λ e. (
  λ has. (c.loop-i.invariant.1 e).0 (has, let in_range = cell_within (map g.T.Number.value c.args.cells.now) e has in omega (arith, in_range, same_length g.T.Number.value c.args.cells.now)),
  λ there. ((c.loop-i.invariant.1 e).1 there).0,
)
