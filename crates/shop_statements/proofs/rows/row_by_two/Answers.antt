use Rattle.shop_statements.proofs.rows.row_by_two.Goals as goal

pub returns-clause-row : goal.returns-clause-row
returns-clause-row g c clean = rw (c.params-to_sql.ensures, c.params-to_sql-2.ensures) at (c.one_row.ensures.row clean)
