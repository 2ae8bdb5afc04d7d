use Rattle.std.proofs.Common.{◌≡◌, pos}
use Rattle.sqlite_value.specs.declared.value.Value.TheVariants.{Int}
use Rattle.sqlite_value.specs.Order.{column}
use Rattle.shop_tables.specs.ListedRows.{listed_demand, number_row}
use Rattle.shop_statements.proofs.Reading.{one_number}
use Rattle.shop_tables.proofs.RowsAsShown.{demand_read}
use Rattle.shop_tables.proofs.listed_rows.DemandListed.read.Goals as goal

pub returns-clause-value : goal.returns-clause-value
returns-clause-value c demand is =
    let read : column (listed_demand demand) 10 ≡ Int (pos c.in_ok-number.number) = rw is at c.in_ok-number.ensures in
    c.read_demand.ensures.row demand (number_row demand.number) (one_number _ _ read) is

pub returns-clause-exact : goal.returns-clause-exact
returns-clause-exact c = demand_read c.read_demand.result c.args.row.now c.in_ok-number.number c.read_demand.ensures.key c.read_demand.ensures.exact c.in_ok-number.ensures
