use Rattle.std.proofs.Common.{refl}
use Rattle.shop_tables.proofs.InTurn.{writes_nothing}
use Rattle.shop_tables.proofs.changing.write_uses.Goals as goal

pub returns-in_default-clause-writes : goal.returns-in_default-clause-writes
returns-in_default-clause-writes g c = rw c.in_default.is (writes_nothing (λ b. refl))

pub returns-in-None-clause-writes : goal.returns-in-None-clause-writes
returns-in-None-clause-writes g c = rw (c.in-Some.is, c.in-None.is) (writes_nothing (λ b. refl))

pub returns-in-Some-act-clause-writes : goal.returns-in-Some-act-clause-writes
returns-in-Some-act-clause-writes g c = rw (c.in-Some.is, c.in-Some-act.is) c.put_uses.ensures.writes
