use Rattle.std.proofs.Common.{◌/◌, length, arith}
use Rattle.shop_tables.proofs.InTurn.{both_written, none_written, one_written, ran_writes}
use Rattle.shop_tables.proofs.writing.+write_all.Goals as goal

pub returns-then-rows-eq0-clause-writes : goal.returns-then-rows-eq0-clause-writes
returns-then-rows-eq0-clause-writes g t c = none_written g.W.Writing.needs g.W.Writing.makes c.args.rows.now (omega arith)

pub returns-then-rows-eq1-clause-writes : goal.returns-then-rows-eq1-clause-writes
returns-then-rows-eq1-clause-writes g t c =
    one_written g.W.Writing.needs g.W.Writing.makes c.args.rows.now c.index-rows-0.result (omega arith) c.index-rows-0.is (ran_writes c.write.ensures.ran c.write.ensures.put c.write.ensures.others c.write.ensures.within)

pub returns-clause-writes : goal.returns-clause-writes
returns-clause-writes g t c =
    both_written g.W.Writing.needs g.W.Writing.makes (length c.args.rows.now / 2) c.args.rows.now c.split_at.result.0.now c.split_at.result.1.now c.split_at.ensures.front c.split_at.ensures.back c.in_ok-write_all.ensures.writes c.write_all-2.ensures.writes
