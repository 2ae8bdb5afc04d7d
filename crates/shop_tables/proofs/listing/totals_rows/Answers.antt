use Rattle.sqlite.specs.Held.{state}
use Rattle.shop_statements.specs.Earlier.{second_schema}
use Rattle.shop_tables.proofs.Ordered.{lists_totals, lists_totals_of, rows_given}
use Rattle.shop_tables.proofs.SecondRows.{second_totals_is, rows_given_second}
use Rattle.shop_tables.proofs.ListTexts.{all_totals_text, all_totals_selects}
use Rattle.shop_tables.proofs.listing.totals_rows.Goals as goal

pub returns-clause-rows : goal.returns-clause-rows
returns-clause-rows g c clean b was =
    let old = state g.S.Store c.args.conn.now in
    let new = state g.S.Store c.all_rows.new.conn in
    rows_given all_totals_text old new all_totals_selects c.all_rows.ensures.leaves b _ c.all_rows.result clean was (λ rows has. lists_totals old new b has rows) (c.all_rows.ensures.rows clean)

pub returns-clause-leaves : goal.returns-clause-leaves
returns-clause-leaves g c = c.all_rows.ensures.leaves all_totals_selects

pub returns-clause-second : goal.returns-clause-second
returns-clause-second g c clean b was =
    let old = state g.S.Store c.args.conn.now in
    let new = state g.S.Store c.all_rows.new.conn in
    rows_given_second all_totals_text old new all_totals_selects c.all_rows.ensures.leaves b _ c.all_rows.result clean was
    (λ rows has. lists_totals_of old new second_schema has.schema _ second_totals_is b.totals has.stands.totals2 rows) (c.all_rows.ensures.rows clean)
