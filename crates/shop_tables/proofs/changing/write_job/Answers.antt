use Rattle.sqlite.specs.Held.{state}
use Rattle.std.proofs.Common.{refl}
use Rattle.shop_tables.proofs.InTurn.{of_ours, ran_writes, writes_nothing}
use Rattle.shop_tables.proofs.changing.write_job.Goals as goal

pub returns-in-None-clause-writes : goal.returns-in-None-clause-writes
returns-in-None-clause-writes g c = rw (c.in-Some.is, c.in-None.is) (ran_writes c.move_job.ensures.ran (λ b fits. c.move_job.ensures.put b fits.before fits.found fits.is) (of_ours (state g.S.Store c.args.tx.now.conn.now) (state g.S.Store c.move_job.new.tx.conn.now) c.move_job.result 6 (λ t far. far.1.1.1.0) c.move_job.ensures.others) c.move_job.ensures.within)

pub returns-in-Some-act-clause-writes : goal.returns-in-Some-act-clause-writes
returns-in-Some-act-clause-writes g c =
    rw (c.in-Some.is, c.in-Some-act.is)
    (ran_writes c.put_job.ensures.ran (λ b fits. c.put_job.ensures.put b fits.new (record { numbered = refl; kerf = fits.kerf; plan = c.see.ensures.kept; on = fits.on })) (of_ours (state g.S.Store c.args.tx.now.conn.now) (state g.S.Store c.put_job.new.tx.conn.now) c.put_job.result 6 (λ t far. far.1.1.1.0) c.put_job.ensures.others) c.put_job.ensures.within)

pub returns-in_default-clause-writes : goal.returns-in_default-clause-writes
returns-in_default-clause-writes g c = rw c.in_default.is (writes_nothing (λ b. refl))
