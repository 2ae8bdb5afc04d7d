use Rattle.std.proofs.Common.{OnOk}
use Rattle.sqlite.specs.Held.{state}
use Rattle.shop_statements.specs.Rows.{totals_row}
use Rattle.shop_statements.specs.Shown.{HasExecuted}
use Rattle.shop_statements.proofs.sums.run_totals.Goals as goal

pub returns-clause-has_run : goal.returns-clause-has_run
returns-clause-has_run g c =
    let ran : OnOk c.run.result (HasExecuted c.args.sql.now (totals_row (c.args.material, c.args.totals.now)) (state g.S.Store c.args.tx.now.conn.now) (state g.S.Store c.run.new.tx.conn.now)) =
    rw (c.params-to_sql.ensures, c.params-to_sql-2.ensures, c.params-to_sql-3.ensures, c.params-to_sql-4.ensures, c.params-to_sql-5.ensures, c.params-to_sql-6.ensures, c.params-to_sql-7.ensures, c.params-to_sql-8.ensures, c.as_str.ensures.value, c.in_ok-counts.ensures) at c.run.ensures.has_run in
    ran
