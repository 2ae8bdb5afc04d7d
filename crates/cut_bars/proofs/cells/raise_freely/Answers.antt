use Rattle.std.proofs.Common.{◌-◌, map, arith}
use Rattle.cut_wants.proofs.NumberRows.{same_length, set_length, value_at, value_others}
use Rattle.cut_bars.proofs.RaisedCells.{cell_fits, offered_at, raised_up}
use Rattle.cut_bars.proofs.cells.raise_freely.Goals as goal

pub offered-requires : goal.offered-requires
offered-requires g c =
    let f = g.T.Number.value in
    let i = c.loop-c.c in
    let from = value_at f c.loop-c.cells (i - c.args.step) c.index-cells-c-in-loop-c.result (omega arith) c.index-cells-c-in-loop-c.is in
    let here = same_length f c.loop-c.cells in
    omega (arith, from, cell_fits g.T.Number.limit c.args.step c.args.gain i (map f c.loop-c.cells) c.loop-c.invariant.2 (omega arith) (omega (arith, here)))

pub loop-c-preserved : goal.loop-c-preserved
loop-c-preserved g c =
    let f = g.T.Number.value in
    let i = c.loop-c.c in
    let old = same_length f c.loop-c.cells in
    raised_up c.args.step c.args.gain (map f c.args.cells.now) (map f c.loop-c.cells) _ c.requires.step g.T.Number.limit i (omega arith) (set_length f c.loop-c.cells i c.offered.result)
    (offered_at f c.loop-c.cells i (i - c.args.step) c.args.step c.args.gain c.offered.result c.index-cells-c.result c.index-cells-c-in-loop-c.result (omega arith) (omega arith)
    c.index-cells-c.is c.index-cells-c-in-loop-c.is c.offered.ensures)
    (λ k ne. value_others f c.loop-c.cells i k c.offered.result ne) c.loop-c.invariant

pub returns : goal.returns
returns g c =
    let first = same_length g.T.Number.value c.args.cells.now in
    record { low = c.loop-c.invariant.1; high = λ k ge lt. c.loop-c.invariant.3 k ge (omega (arith, first)) }
