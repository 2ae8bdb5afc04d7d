use Rattle.std.proofs.Common.{◌≡◌}
use Rattle.sqlite_value.specs.declared.value.Value.TheVariants.{Text}
use Rattle.sqlite_value.specs.Order.{column}
use Rattle.shop_tables.specs.Listing.{code_row}
use Rattle.shop_tables.specs.ListedRows.{listed_material}
use Rattle.shop_tables.proofs.RowsAsShown.{material_read}
use Rattle.shop_tables.proofs.listed_rows.MaterialListed.read.Goals as goal

pub returns-clause-value : goal.returns-clause-value
returns-clause-value c material is =
    let read : column (listed_material material) 4 ≡ Text c.in_ok-code.code = rw is at c.in_ok-code.ensures in
    let own : material.code ≡ c.in_ok-code.code = cc in
    c.read_material.ensures.row material (code_row material.code) own is

pub returns-clause-exact : goal.returns-clause-exact
returns-clause-exact c = material_read c.read_material.result c.args.row.now c.in_ok-code.code c.read_material.ensures.row c.read_material.ensures.exact c.in_ok-code.ensures
