use Rattle.shop_commands.proofs.Restored.{unrestored}
use Rattle.shop_commands.proofs.restoring.put.Goals as goal

pub returns-in-Err : goal.returns-in-Err
returns-in-Err g c = unrestored c.in-Err.fault c.from.result c.from.ensures
