use Rattle.std.proofs.Common.{◌≡◌, ◌-◌, ◌<◌, length, map, get_or, subst, arith}
use Rattle.cut_sheets.specs.Table.{IsPlainWorth, IsLifted}
use Rattle.cut_wants.proofs.NumberRows.{same_length}
use Rattle.cut_sheets.proofs.SheetTables.{sum_fits, row_best, lifted_first, lifted_more}
use Rattle.cut_sheets.proofs.sheet.lift.Goals as goal

pub stack_rows-requires-clause-fits : goal.stack_rows-requires-clause-fits
stack_rows-requires-clause-fits g c = λ w wl.
    sum_fits g.T.Number.limit c.args.wants.now (length c.args.row.now) w (length c.args.rows.now) 0 (length c.args.rows.now - 1) _ _ c.requires.own c.requires.fits wl (omega arith)
    (row_best g.T.Number.value _ _ _ _ _ _ c.requires.table c.index-rows-0.is c.deref.ensures.value (omega arith) w wl)
    (row_best g.T.Number.value _ _ _ _ _ _ c.requires.table c.index-rows-rows.is c.deref-then-rows-gt0.ensures.value (omega arith) w wl)

pub returns-then-rows-gt0 : goal.returns-then-rows-gt0
returns-then-rows-gt0 g c = λ w wl.
    let f = g.T.Number.value in
    let new = same_length f c.stack_rows.new.row in
    let old = same_length f c.args.row.now in
    let here : w < length c.args.row.now = omega (arith, new) in
    lifted_more c.requires.fits.price c.args.wants.now w (length c.args.rows.now) _ _ _ _ c.requires.own c.requires.fits.priced (omega arith) (c.requires.plain w (omega (arith, old)))
    (row_best f _ _ _ _ _ _ c.requires.table c.index-rows-0.is c.deref.ensures.value (omega arith) w here)
    (row_best f _ _ _ _ _ _ c.requires.table c.index-rows-rows.is c.deref-then-rows-gt0.ensures.value (omega arith) w here)
    (c.stack_rows.ensures w (omega (arith, old)))

pub returns-else-rows-gt0 : goal.returns-else-rows-gt0
returns-else-rows-gt0 g c = λ w wl.
    let none : 0 ≡ length c.args.rows.now = omega arith in
    subst (λ n. IsPlainWorth c.args.wants.now w n (get_or (map g.T.Number.value c.args.row.now) w 0) → IsLifted c.args.wants.now w n (get_or (map g.T.Number.value c.args.row.now) w 0)) none
    (lifted_first c.args.wants.now w _ c.requires.own) (c.requires.plain w wl)
