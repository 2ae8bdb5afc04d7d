use Rattle.std.proofs.Common.{refl}
use Rattle.shop_tables.specs.Changing.{with_demands}
use Rattle.shop_tables.proofs.InTurn.{of_all}
use Rattle.shop_tables.proofs.changing.write_demands.Goals as goal

pub returns-in-Some-clause-writes : goal.returns-in-Some-clause-writes
returns-in-Some-clause-writes g c = rw c.in-Some.is (of_all with_demands (λ b. refl) (λ x rows b. refl) c.args.demands.now c.write_all.ensures.writes)

pub returns-in-None-clause-writes : goal.returns-in-None-clause-writes
returns-in-None-clause-writes g c = rw c.in-None.is (of_all with_demands (λ b. refl) (λ x rows b. refl) c.args.demands.now c.write_all-in-None.ensures.writes)
