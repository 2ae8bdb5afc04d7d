use Rattle.std.proofs.Common.{◌≡◌, pos}
use Rattle.sqlite_value.specs.declared.value.Value.TheVariants.{Int}
use Rattle.sqlite_value.specs.Order.{column}
use Rattle.shop_tables.specs.ListedRows.{listed_begun, number_row}
use Rattle.shop_statements.proofs.Reading.{one_number}
use Rattle.shop_tables.proofs.valid_rows.read_listed_begun.Goals as goal

pub returns : goal.returns
returns c begun is =
    let read : column (listed_begun begun) 1 ≡ Int (pos c.in_ok-job.job) = rw is at c.in_ok-job.ensures in
    c.read_begun.ensures.row begun (number_row begun.job) (one_number _ _ read) is
