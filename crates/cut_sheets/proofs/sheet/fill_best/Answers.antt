use Rattle.std.proofs.Common.{◌≡◌, ◌+◌, ◌<◌, length, map, subst, arith}
use Rattle.cut_sheets.specs.Table.{IsPricedBelow}
use Rattle.cut_wants.proofs.NumberRows.{same_length}
use Rattle.cut_sheets.proofs.SheetTables.{uncut_below, joined_best}
use Rattle.cut_sheets.proofs.sheet.fill_best.Goals as goal

pub stack_all-requires-clause-useful : goal.stack_all-requires-clause-useful
stack_all-requires-clause-useful g c = λ h d hl is w v wl b. c.requires.useful h d hl is w v (omega arith) b

pub join_row-requires : goal.join_row-requires
join_row-requires g c =
    let new = same_length g.T.Number.value c.stack_all.new.row in
    let e : length c.args.row.now ≡ length (map g.T.Number.value c.stack_all.new.row) = omega (arith, new) in
    let fits = subst (λ n. IsPricedBelow g.T.Number.limit c.args.wants.now n (length c.args.rows.now)) e c.requires.fits in
    record { small = uncut_below g.T.Number.limit c.args.wants.now (length c.args.rows.now) (map g.T.Number.value c.stack_all.new.row) c.requires.own fits c.stack_all.ensures }

pub returns : goal.returns
returns g c =
    let f = g.T.Number.value in
    let old = same_length f c.stack_all.new.row in
    let new = same_length f c.join_row.new.row in
    record {
      len = omega (arith, new);
      best = λ w wl.
          let wl' : w < length (map f c.stack_all.new.row) = omega (arith, old) in
          joined_best c.requires.fits.price c.args.wants.now (length c.args.rows.now) _ _ c.requires.own c.requires.fits.priced c.join_row.ensures c.stack_all.ensures (w + 1) w (omega arith) wl';
    }
