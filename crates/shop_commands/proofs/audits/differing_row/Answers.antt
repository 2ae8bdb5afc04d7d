use Rattle.shop_commands.proofs.Audited.{failure}
use Rattle.shop_commands.proofs.audits.differing_row.Goals as goal

pub returns-in-Err : goal.returns-in-Err
returns-in-Err g c = failure c.in-Err.fault c.from.result c.from.ensures
