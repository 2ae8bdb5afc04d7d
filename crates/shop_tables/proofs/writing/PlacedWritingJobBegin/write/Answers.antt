use Rattle.sqlite.specs.Held.{state}
use Rattle.shop_tables.proofs.InTurn.{of_ours}
use Rattle.shop_tables.proofs.writing.PlacedWritingJobBegin.write.Goals as goal

pub returns-clause-others : goal.returns-clause-others
returns-clause-others g c = of_ours (state g.S.Store c.args.tx.now.conn.now) (state g.S.Store c.put_begun.new.tx.conn.now) c.put_begun.result 24 (λ t far. far.1.1.1.1.1.1.1.1.1.1.1.1.1.0) c.put_begun.ensures.others
