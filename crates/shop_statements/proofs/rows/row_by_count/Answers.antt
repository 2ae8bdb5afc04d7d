use Rattle.shop_statements.proofs.Reading.{leaves_itself}
use Rattle.shop_statements.proofs.rows.row_by_count.Goals as goal

pub returns-in_err-bound-clause-leaves : goal.returns-in_err-bound-clause-leaves
returns-in_err-bound-clause-leaves g c is = leaves_itself _

pub returns-clause-row : goal.returns-clause-row
returns-clause-row g c clean = rw (c.params-to_sql.ensures, c.in_ok-bound.ensures) at (c.in_ok-row.ensures.row clean)
