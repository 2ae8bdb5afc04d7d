use Rattle.std.proofs.Common.{refl}
use Rattle.sqlite.specs.Held.{state}
use Rattle.shop_statements.specs.Rows.{totals_row}
use Rattle.shop_statements.specs.Changes.{with_totals}
use Rattle.shop_statements.proofs.Texts.{set_totals_text, set_totals_is}
use Rattle.shop_statements.proofs.Writing.{makes}
use Rattle.shop_statements.proofs.Setting.{sets_totals}
use Rattle.shop_statements.specs.Layout.{totals2_table}
use Rattle.shop_statements.proofs.Beside.{sets_beside}
use Rattle.shop_statements.proofs.sums.set_totals.Goals as goal

pub returns-clause-put : goal.returns-clause-put
returns-clause-put g c b was there =
    let old = state g.S.Store c.args.tx.now.conn.now in
    let new = state g.S.Store c.run_totals.new.tx.conn.now in
    makes set_totals_text (totals_row (c.args.material, c.args.totals.now)) old new b (with_totals c.args.material c.args.totals.now b) c.run_totals.result c.run_totals.ensures.has_run
    (λ count has ran. sets_totals old new count b has c.args.material was c.args.totals.now there ran)

pub returns-clause-others : goal.returns-clause-others
returns-clause-others g c =
    let old = state g.S.Store c.args.tx.now.conn.now in
    sets_beside set_totals_text _ old (state g.S.Store c.run_totals.new.tx.conn.now) c.run_totals.result 9 totals2_table (λ h. h.totals2) (λ h. refl) _ (set_totals_is old.now.schema) c.run_totals.ensures.has_run
