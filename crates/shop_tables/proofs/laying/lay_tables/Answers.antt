use Rattle.std.proofs.Common.{arith}
use Rattle.shop_tables.proofs.Lays.{lays_fresh, lays_on, lays_when}
use Rattle.shop_tables.proofs.laying.lay_tables.Goals as goal

pub returns-clause-laid : goal.returns-clause-laid
returns-clause-laid g c has = lays_fresh g.S.Store c.args.tx.now.conn.now c.run_all.new.tx.conn.now c.run_all.result has (λ clean. omega (arith, c.run_all.ensures.within.survives.clean)) c.run_all.ensures.run

pub returns-clause-beside : goal.returns-clause-beside
returns-clause-beside g c counts = lays_when g.S.Store c.args.tx.now.conn.now c.run_all.new.tx.conn.now c.run_all.result counts c.run_all.ensures.run

pub returns-clause-ran : goal.returns-clause-ran
returns-clause-ran g c = lays_on g.S.Store c.args.tx.now.conn.now c.run_all.new.tx.conn.now c.run_all.result (λ clean. omega (arith, c.run_all.ensures.within.survives.clean)) c.run_all.ensures.run
