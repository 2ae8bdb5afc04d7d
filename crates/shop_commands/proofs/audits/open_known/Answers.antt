use Rattle.std.proofs.Common.{subst}
use Rattle.shop_commands.proofs.audits.open_known.Goals as goal

pub returns-in-Ok-clause-ok : goal.returns-in-Ok-clause-ok
returns-in-Ok-clause-ok g c = subst (g.O.Opens.gives c.args.stores c.args.store.now) c.in-Ok.is c.open.ensures

pub returns-in-Err-clause-err : goal.returns-in-Err-clause-err
returns-in-Err-clause-err g c = (c.in-Err.fault, subst (g.O.Opens.gives c.args.stores c.args.store.now) c.in-Err.is c.open.ensures, c.unfound.ensures)
