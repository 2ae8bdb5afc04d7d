use Rattle.sqlite.specs.Held.{state}
use Rattle.shop_tables.proofs.InTurn.{of_ours}
use Rattle.shop_tables.proofs.writing.KnownWritingPart.write.Goals as goal

pub returns-clause-put : goal.returns-clause-put
returns-clause-put g c b was = c.move_part.ensures.put b was.before was.found was.is

pub returns-clause-others : goal.returns-clause-others
returns-clause-others g c = of_ours (state g.S.Store c.args.tx.now.conn.now) (state g.S.Store c.move_part.new.tx.conn.now) c.move_part.result 4 (λ t far. far.1.1.0) c.move_part.ensures.others
