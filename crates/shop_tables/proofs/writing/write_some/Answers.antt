use Rattle.std.proofs.Common.{refl}
use Rattle.shop_tables.proofs.InTurn.{ran_writes, writes_nothing}
use Rattle.shop_tables.proofs.writing.write_some.Goals as goal

pub returns-in-Some-clause-writes : goal.returns-in-Some-clause-writes
returns-in-Some-clause-writes g c = rw c.in-Some.is (ran_writes c.write.ensures.ran c.write.ensures.put c.write.ensures.others c.write.ensures.within)

pub returns-in-None-clause-writes : goal.returns-in-None-clause-writes
returns-in-None-clause-writes g c = rw c.in-None.is (writes_nothing (λ b. refl))
