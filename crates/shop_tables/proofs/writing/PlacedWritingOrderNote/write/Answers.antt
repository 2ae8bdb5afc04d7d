use Rattle.sqlite.specs.Held.{state}
use Rattle.shop_tables.proofs.InTurn.{of_ours}
use Rattle.shop_tables.proofs.writing.PlacedWritingOrderNote.write.Goals as goal

pub returns-clause-others : goal.returns-clause-others
returns-clause-others g c = of_ours (state g.S.Store c.args.tx.now.conn.now) (state g.S.Store c.put_note.new.tx.conn.now) c.put_note.result 22 (λ t far. far.1.1.1.1.1.1.1.1.1.1.1.1.0) c.put_note.ensures.others
