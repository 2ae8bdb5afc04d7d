use Rattle.std.proofs.Common.{◌≡◌, ◌≤◌, arith, length}
use Rattle.shop_files.specs.declared.limits.TheConstants.{MAX_ENTRIES}
use Rattle.shop_commands.proofs.Opened.{entries_short}
use Rattle.shop_commands.proofs.stored.entries_in.Goals as goal

pub returns-in-Ok-clause-ok : goal.returns-in-Ok-clause-ok
returns-in-Ok-clause-ok c =
    let shop = c.in-Ok.ensures.spelled in
    let each : length c.in-Ok.entries ≡ length shop.list = entries_short shop.list c.in-Ok.entries shop.are_entries in
    let few : length shop.list ≤ MAX_ENTRIES = shop.has_list.few in
    (shop, omega (arith, each, few))

pub returns-in-Err-clause-err : goal.returns-in-Err-clause-err
returns-in-Err-clause-err c = (c.in-Err.fault, c.in-Err.ensures.fault, c.from.ensures)
