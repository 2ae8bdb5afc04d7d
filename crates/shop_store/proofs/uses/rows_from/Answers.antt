use Rattle.shop_store.proofs.UsesQuery.{uses_selects}
use Rattle.shop_store.proofs.uses.rows_from.Goals as goal

pub returns-in_err-rows-clause-leaves : goal.returns-in_err-rows-clause-leaves
returns-in_err-rows-clause-leaves g c = c.all_rows.ensures.leaves uses_selects

pub returns-clause-leaves : goal.returns-clause-leaves
returns-clause-leaves g c = c.all_rows.ensures.leaves uses_selects
