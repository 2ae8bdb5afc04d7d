use Rattle.sqlite.specs.Held.{state}
use Rattle.shop_tables.proofs.EarlierRows.{earlier_totals_text, earlier_totals_selects, lists_earlier_totals, rows_given_earlier}
use Rattle.shop_tables.proofs.renewing.earlier_totals_rows.Goals as goal

pub returns-clause-rows : goal.returns-clause-rows
returns-clause-rows g c clean b was =
    let old = state g.S.Store c.args.conn.now in
    let new = state g.S.Store c.all_rows.new.conn in
    rows_given_earlier earlier_totals_text old new earlier_totals_selects c.all_rows.ensures.leaves b _ c.all_rows.result clean was (λ rows has. lists_earlier_totals old new b has rows) (c.all_rows.ensures.rows clean)

pub returns-clause-leaves : goal.returns-clause-leaves
returns-clause-leaves g c = c.all_rows.ensures.leaves earlier_totals_selects
