use Rattle.std.proofs.Common.{◌<◌, ◌-◌, length, map, inl, inr, arith}
use Rattle.cut_wants.proofs.NumberRows.{same_length}
use Rattle.cut_sheets.proofs.SheetTables.{tried_first, tried_next, tried_same, tried_all, row_best, row_worth, sum_fits}
use Rattle.cut_sheets.proofs.sheet.stack_all.Goals as goal
use Rattle.cut_sheets.proofs.sheet.stack_all.Goals.{then-useful-a+then-useful-height, else-useful-a, else-useful-a-via-then-useful-a+else-useful-height, else-useful-a-via-else-useful-a}

pub loop-a-init : goal.loop-a-init
loop-a-init g c = λ w wl. tried_first c.args.wants.now w (length c.args.rows.now) _ c.requires.own (c.requires.lifted w wl)

pub stack_rows-requires-clause-fits : goal.stack_rows-requires-clause-fits
stack_rows-requires-clause-fits g c = λ w wl.
    let wl' : w < length c.args.row.now = omega arith in
    sum_fits g.T.Number.limit c.args.wants.now (length c.args.row.now) w (length c.args.rows.now) c.loop-a.a (length c.args.rows.now - c.loop-a.a) _ _ c.requires.own c.requires.fits wl' (omega arith)
    (row_best g.T.Number.value _ _ _ _ _ _ c.requires.table c.index-rows-a.is c.deref.ensures.value (omega arith) w wl')
    (row_best g.T.Number.value _ _ _ _ _ _ c.requires.table c.index-rows-height.is c.deref-then-useful-height.ensures.value (omega arith) w wl')

pub loop-a-preserved : goal.loop-a-preserved
loop-a-preserved g c =
    let f = g.T.Number.value in
    let old = same_length f c.loop-a.row in
    let other = length c.args.rows.now - c.loop-a.a in
    elim c.if-useful-a.branch [
      | then-useful-a+then-useful-height v ↦ rw v.row-is (λ w wl.
          let new = same_length f v.stack_rows.new.row in
          let wl' : w < length c.args.row.now = omega (arith, new) in
          let wl'' : w < length (map f c.loop-a.row) = omega (arith, old) in
          tried_next c.args.wants.now w (length c.args.rows.now) c.loop-a.a other _ _ _ _
          (omega arith) (omega arith) (omega arith) (c.loop-a.invariant w wl'')
          (row_best f _ _ _ _ _ _ c.requires.table v.index-rows-a.is v.deref.ensures.value (omega arith) w wl')
          (row_best f _ _ _ _ _ _ c.requires.table v.index-rows-height.is v.deref-then-useful-height.ensures.value (omega arith) w wl')
          (v.stack_rows.ensures w wl''))
      | else-useful-a v ↦ rw v.row-is (λ w wl.
          let wl' : w < length c.args.row.now = omega (arith, old) in
          let low = row_worth f c.args.wants.now (length c.args.row.now) c.args.rows.now w c.loop-a.a c.requires.table wl' (omega arith) in
          let high = row_worth f c.args.wants.now (length c.args.row.now) c.args.rows.now w other c.requires.table wl' (omega arith) in
          let top = row_worth f c.args.wants.now (length c.args.row.now) c.args.rows.now w (length c.args.rows.now - 1) c.requires.table wl' (omega arith) in
          tried_same c.requires.fits.price c.args.wants.now w (length c.args.rows.now) c.loop-a.a other _ low.0 high.0 top.0 c.requires.own c.requires.fits.priced
          (omega arith) (omega arith) (omega arith) (c.loop-a.invariant w wl) low.1 high.1 top.1
          (elim v.else-useful-a.branch [
            | else-useful-a-via-then-useful-a+else-useful-height u ↦ inr (c.requires.useful other _ (omega arith) u.if-useful-height.false w high.0 wl' high.1)
            | else-useful-a-via-else-useful-a u ↦ inl (c.requires.useful c.loop-a.a _ (omega arith) u.if-useful-a.false w low.0 wl' low.1)
          ]))
    ]

pub returns : goal.returns
returns g c = λ w wl. tried_all c.args.wants.now w (length c.args.rows.now) c.loop-a.a _ (omega arith) (c.loop-a.invariant w wl)
