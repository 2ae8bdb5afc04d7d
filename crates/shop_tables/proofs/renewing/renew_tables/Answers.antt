use Rattle.std.proofs.Common.{arith}
use Rattle.shop_tables.proofs.Renewed.{renews_when}
use Rattle.shop_tables.proofs.RenewedBeside.{renews_beside, renews_on, renews_open}
use Rattle.shop_tables.proofs.renewing.renew_tables.Goals as goal

pub returns-clause-renewed : goal.returns-clause-renewed
returns-clause-renewed g c b has = renews_when g.S.Store c.args.tx.now.conn.now c.run_all.new.tx.conn.now b c.run_all.result has (λ clean. omega (arith, c.run_all.ensures.within.survives.clean)) c.run_all.ensures.run

pub returns-clause-beside : goal.returns-clause-beside
returns-clause-beside g c sees = renews_beside g.S.Store c.args.tx.now.conn.now c.run_all.new.tx.conn.now c.run_all.result sees (λ clean. omega (arith, c.run_all.ensures.within.survives.clean)) c.run_all.ensures.run

pub returns-clause-ran : goal.returns-clause-ran
returns-clause-ran g c = renews_on g.S.Store c.args.tx.now.conn.now c.run_all.new.tx.conn.now c.run_all.result (λ clean. omega (arith, c.run_all.ensures.within.survives.clean)) c.run_all.ensures.run

pub returns-clause-was_open : goal.returns-clause-was_open
returns-clause-was_open g c clean = renews_open g.S.Store c.args.tx.now.conn.now c.run_all.new.tx.conn.now c.run_all.result (c.run_all.ensures.run clean)
