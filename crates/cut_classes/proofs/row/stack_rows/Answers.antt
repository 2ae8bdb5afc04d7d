use Rattle.std.proofs.Common.{◌+◌, map, get_or, arith}
use Rattle.cut_wants.proofs.NumberRows.{value_at}
use Rattle.cut_classes.proofs.RaisedRows.{raised_more}
use Rattle.cut_classes.proofs.row.stack_rows.Goals as goal

pub raised-requires : goal.raised-requires
raised-requires g c =
    let f = g.T.Number.value in
    let low = value_at f c.args.low.now c.loop-p.p c.index-low-p.result (omega arith) c.index-low-p.is in
    let high = value_at f c.args.high.now c.loop-p.p c.index-high-p.result (omega arith) c.index-high-p.is in
    omega (arith, low, high, c.requires.fits c.loop-p.p (omega arith))

pub loop-p-preserved : goal.loop-p-preserved
loop-p-preserved g c =
    let f = g.T.Number.value in
    let here = value_at f c.loop-p.row c.loop-p.p c.index-row-p.result (omega arith) c.index-row-p.is in
    let low = value_at f c.args.low.now c.loop-p.p c.index-low-p.result (omega arith) c.index-low-p.is in
    let high = value_at f c.args.high.now c.loop-p.p c.index-high-p.result (omega arith) c.index-high-p.is in
    raised_more f c.args.row.now c.loop-p.row (λ k. get_or (map f c.args.low.now) k 0 + get_or (map f c.args.high.now) k 0) c.loop-p.p c.raised.result (omega arith)
    c.loop-p.invariant (omega (arith, here, low, high, c.raised.ensures))
