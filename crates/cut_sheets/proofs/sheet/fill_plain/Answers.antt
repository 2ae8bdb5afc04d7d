use Rattle.std.proofs.Common.{map, sym, false, true, arith}
use Rattle.cut_wants.proofs.NumberRows.{same_length}
use Rattle.cut_sheets.proofs.SheetTables.{piece_fits, plain_more}
use Rattle.cut_sheets.proofs.sheet.fill_plain.Goals as goal

pub offer_upright-requires : goal.offer_upright-requires
offer_upright-requires g c = λ w wl sides.
    piece_fits _ c.args.wants.now _ c.args.height w c.want-item.result false c.requires.fits (c.loop-want.want-index, omega arith, sym c.want-item.is) (omega arith) sides

pub offer_turned-requires : goal.offer_turned-requires
offer_turned-requires g c = λ w wl sides.
    piece_fits _ c.args.wants.now _ c.args.height w c.want-item.result true c.requires.fits (c.loop-want.want-index, omega arith, sym c.want-item.is) (omega arith) sides

pub loop-want-preserved : goal.loop-want-preserved
loop-want-preserved g c =
    let f = g.T.Number.value in
    let old = same_length f c.loop-want.row in
    let mid = same_length f c.offer_upright.new.row in
    let new = same_length f c.offer_turned.new.row in
    plain_more c.args.wants.now c.loop-want.want-index c.want-item.result c.args.height (map f c.loop-want.row) (map f c.offer_upright.new.row) (map f c.offer_turned.new.row)
    (omega arith) c.want-item.is (omega (arith, old, mid)) (omega (arith, mid, new)) c.loop-want.invariant c.offer_upright.ensures c.offer_turned.ensures
