use Rattle.sqlite.specs.Held.{state}
use Rattle.shop_tables.proofs.InTurn.{of_ours}
use Rattle.shop_tables.proofs.writing.LastDemandWritingU32.write.Goals as goal

pub returns-clause-others : goal.returns-clause-others
returns-clause-others g c = of_ours (state g.S.Store c.args.tx.now.conn.now) (state g.S.Store c.set_last_demand.new.tx.conn.now) c.set_last_demand.result 0 (λ t far. far.0) c.set_last_demand.ensures.others
