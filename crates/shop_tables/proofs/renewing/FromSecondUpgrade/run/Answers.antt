use Rattle.shop_tables.proofs.renewing.FromSecondUpgrade.run.Goals as goal

pub returns-clause-makes : goal.returns-clause-makes
returns-clause-makes g c b was = c.extend_tables.ensures.extended b (λ clean up. (was clean up).shows)
