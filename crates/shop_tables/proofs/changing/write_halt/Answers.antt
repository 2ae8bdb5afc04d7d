use Rattle.sqlite.specs.Held.{state}
use Rattle.std.proofs.Common.{refl}
use Rattle.shop_tables.proofs.InTurn.{of_ours, ran_writes, writes_nothing}
use Rattle.shop_tables.proofs.changing.write_halt.Goals as goal

pub returns-in-Some-clause-writes : goal.returns-in-Some-clause-writes
returns-in-Some-clause-writes g c =
    rw c.in-Some.is
    (ran_writes c.put_halt.ensures.ran c.put_halt.ensures.put (of_ours (state g.S.Store c.args.tx.now.conn.now) (state g.S.Store c.put_halt.new.tx.conn.now) c.put_halt.result 25 (λ t far. far.1.1.1.1.1.1.1.1.1.1.1.1.1.1.0) c.put_halt.ensures.others) c.put_halt.ensures.within)

pub returns-in-None-clause-writes : goal.returns-in-None-clause-writes
returns-in-None-clause-writes g c = rw c.in-None.is (writes_nothing (λ b. refl))
