use Rattle.std.proofs.Common.{◌+◌, map, get_or, arith}
use Rattle.cut_wants.proofs.NumberRows.{value_at}
use Rattle.cut_sheets.proofs.OfferedRows.{raised_more}
use Rattle.cut_sheets.proofs.row.offer_sums.Goals as goal

pub raised-requires : goal.raised-requires
raised-requires g c =
    let part = value_at g.T.Number.value c.args.parts.now c.loop-p.p c.index-parts-p.result (omega arith) c.index-parts-p.is in
    omega (arith, part, c.requires.fits c.loop-p.p (omega arith))

pub loop-p-preserved : goal.loop-p-preserved
loop-p-preserved g c =
    let f = g.T.Number.value in
    let here = value_at f c.loop-p.places c.loop-p.p c.index-places-p.result (omega arith) c.index-places-p.is in
    let part = value_at f c.args.parts.now c.loop-p.p c.index-parts-p.result (omega arith) c.index-parts-p.is in
    raised_more f c.args.places.now c.loop-p.places (λ k. f c.args.other + get_or (map f c.args.parts.now) k 0) c.loop-p.p c.raised.result (omega arith)
    c.loop-p.invariant (omega (arith, here, part, c.raised.ensures))
