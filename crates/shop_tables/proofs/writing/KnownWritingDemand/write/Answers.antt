use Rattle.sqlite.specs.Held.{state}
use Rattle.shop_tables.proofs.InTurn.{of_ours}
use Rattle.shop_tables.proofs.writing.KnownWritingDemand.write.Goals as goal

pub returns-clause-put : goal.returns-clause-put
returns-clause-put g c b was = c.count_demand.ensures.put b was.before was.found was.is

pub returns-clause-others : goal.returns-clause-others
returns-clause-others g c = of_ours (state g.S.Store c.args.tx.now.conn.now) (state g.S.Store c.count_demand.new.tx.conn.now) c.count_demand.result 9 (λ t far. far.1.1.1.1.1.0) c.count_demand.ensures.others
