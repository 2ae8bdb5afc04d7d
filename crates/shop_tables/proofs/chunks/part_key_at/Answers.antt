use Rattle.shop_tables.proofs.ListTexts.{part_at_selects}
use Rattle.shop_statements.proofs.Reading.{leaves_itself}
use Rattle.shop_tables.proofs.chunks.part_key_at.Goals as goal

pub returns-in_err-place-clause-leaves : goal.returns-in_err-place-clause-leaves
returns-in_err-place-clause-leaves g c = leaves_itself _

pub returns-in_err-rows-clause-leaves : goal.returns-in_err-rows-clause-leaves
returns-in_err-rows-clause-leaves g c = c.all_rows.ensures.leaves part_at_selects

pub returns-in-Some-clause-leaves : goal.returns-in-Some-clause-leaves
returns-in-Some-clause-leaves g c = c.all_rows.ensures.leaves part_at_selects

pub returns-clause-leaves : goal.returns-clause-leaves
returns-clause-leaves g c = c.all_rows.ensures.leaves part_at_selects
