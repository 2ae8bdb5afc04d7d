use Rattle.std.proofs.Common.{inr}
use Rattle.shop_commands.proofs.performing.write_fault.Goals as goal

pub returns-in-Err-clause-reported : goal.returns-in-Err-clause-reported
returns-in-Err-clause-reported g c = inr c.write_text-in-Err.ensures.written
