use Rattle.std.proofs.Common.{◌≡◌, length, arith}
use Rattle.cut_classes.proofs.RaisedRows.{whole_write}
use Rattle.cut_classes.proofs.table.next_row.Goals as goal

pub returns : goal.returns
returns g c =
    let n : c.in_ok-row.row.len ≡ length c.fill_row.new.row = omega arith in
    let all : length c.in_ok-row.row.items ≡ length c.fill_row.new.row = omega arith in
    rw (whole_write _ _ _ n all) c.fill_row.ensures
