use Rattle.std.proofs.Common.{◌-◌, map, arith}
use Rattle.cut_wants.proofs.NumberRows.{same_length, value_at, value_others}
use Rattle.cut_bars.proofs.RaisedCells.{cell_fits, offered_at, raised_down}
use Rattle.cut_bars.proofs.cells.raise.Goals as goal

pub offered-requires : goal.offered-requires
offered-requires g c =
    let f = g.T.Number.value in
    let i = c.loop-c.c - 1 in
    let from = value_at f c.loop-c.cells (i - c.args.step) c.index-cells-c-in-loop-c.result (omega arith) c.index-cells-c-in-loop-c.is in
    let first = same_length f c.args.cells.now in
    omega (
      arith,
      from,
      c.loop-c.invariant.0 (i - c.args.step) (omega arith),
      cell_fits g.T.Number.limit c.args.step c.args.gain i (map f c.args.cells.now) c.requires.fits (omega arith) (omega (arith, first)),
    )

pub loop-c-preserved : goal.loop-c-preserved
loop-c-preserved g c =
    let f = g.T.Number.value in
    let i = c.loop-c.c - 1 in
    raised_down c.args.step c.args.gain (map f c.args.cells.now) (map f c.loop-c.cells) _ c.requires.step c.loop-c.c i (omega arith) (omega arith)
    (offered_at f c.loop-c.cells i (i - c.args.step) c.args.step c.args.gain c.offered.result c.index-cells-c.result c.index-cells-c-in-loop-c.result (omega arith) (omega arith)
    c.index-cells-c.is c.index-cells-c-in-loop-c.is c.offered.ensures)
    (λ k ne. value_others f c.loop-c.cells i k c.offered.result ne) c.loop-c.invariant

pub returns : goal.returns
returns g c = record { low = c.loop-c.invariant.1; high = λ k ge lt. c.loop-c.invariant.2 k ge (omega arith) lt }
