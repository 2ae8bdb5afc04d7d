use Rattle.std.proofs.Common.{◌∙◌, refl}
use Rattle.shop_tables.specs.Changing.{uses_of, with_uses}
use Rattle.shop_tables.proofs.InTurn.{of_all}
use Rattle.shop_tables.proofs.changing.put_uses.Goals as goal

pub returns-clause-writes : goal.returns-clause-writes
returns-clause-writes g c = of_all with_uses (λ b. refl) (λ row rows b. refl) (uses_of c.args.job c.args.demands.now) (rw (c.deref.ensures.value ∙ c.in_ok-uses.ensures) at c.write_all.ensures.writes)
