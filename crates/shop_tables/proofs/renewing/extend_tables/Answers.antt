use Rattle.std.proofs.Common.{arith}
use Rattle.shop_tables.proofs.Extended.{extends_when}
use Rattle.shop_tables.proofs.ExtendedBeside.{extends_beside}
use Rattle.shop_tables.proofs.Making.{ran_when}
use Rattle.shop_tables.specs.declared.laying.TheConstants.{JOURNAL}
use Rattle.shop_tables.proofs.Extended.{later_texts}
use Rattle.shop_tables.proofs.renewing.extend_tables.Goals as goal

pub returns-clause-extended : goal.returns-clause-extended
returns-clause-extended g c b has = extends_when g.S.Store c.args.tx.now.conn.now c.run_all.new.tx.conn.now b c.run_all.result has (λ clean. omega (arith, c.run_all.ensures.within.survives.clean)) c.run_all.ensures.run

pub returns-clause-ran : goal.returns-clause-ran
returns-clause-ran g c = ran_when g.S.Store JOURNAL.now later_texts c.args.tx.now.conn.now c.run_all.new.tx.conn.now c.run_all.result (λ clean. omega (arith, c.run_all.ensures.within.survives.clean)) c.run_all.ensures.run

pub returns-clause-beside : goal.returns-clause-beside
returns-clause-beside g c sees = extends_beside g.S.Store c.args.tx.now.conn.now c.run_all.new.tx.conn.now c.run_all.result sees (λ clean. omega (arith, c.run_all.ensures.within.survives.clean)) c.run_all.ensures.run
