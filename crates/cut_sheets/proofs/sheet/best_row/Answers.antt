use Rattle.std.proofs.Common.{◌≡◌, ◌+◌, length, map, subst, arith}
use Rattle.cut_sheets.specs.Table.{IsBestRow}
use Rattle.cut_sheets.proofs.SheetTables.{whole_write}
use Rattle.cut_sheets.proofs.sheet.best_row.Goals as goal

pub fill_best-requires-clause-useful : goal.fill_best-requires-clause-useful
fill_best-requires-clause-useful g c = λ h d hl is w v wl b. c.requires.useful h d hl is w v (omega (arith, c.in_ok-row.ensures.len)) b

pub returns : goal.returns
returns g c =
    let len : length c.fill_best.new.row ≡ c.args.width + 1 = omega (arith, c.in_ok-row.ensures.len) in
    let n : c.in_ok-row.row.len ≡ length c.fill_best.new.row = omega arith in
    let all : length c.in_ok-row.row.items ≡ length c.fill_best.new.row = omega arith in
    let places : length c.deref_mut.result.now ≡ c.args.width + 1 = omega arith in
    rw (whole_write _ _ _ n all) (subst (λ i. IsBestRow c.args.wants.now i (length c.args.rows.now) (map g.T.Number.value c.fill_best.new.row)) places c.fill_best.ensures)
