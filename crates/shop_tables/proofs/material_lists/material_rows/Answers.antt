use Rattle.std.proofs.Common.{[]}
use Rattle.sqlite.specs.Held.{state}
use Rattle.shop_tables.proofs.FirstRows.{lists_materials, lists_materials_of}
use Rattle.shop_tables.proofs.ListTexts.{all_materials_text, all_materials_selects}
use Rattle.shop_tables.proofs.RowsAsShown.{gives, materials_shown}
use Rattle.shop_statements.specs.Earlier.{earlier_schema, second_schema}
use Rattle.shop_tables.proofs.EarlierRows.{earlier_materials_is, rows_given_earlier}
use Rattle.shop_tables.proofs.SecondRows.{second_materials_is, rows_given_second}
use Rattle.shop_tables.proofs.material_lists.material_rows.Goals as goal

pub returns-clause-gives : goal.returns-clause-gives
returns-clause-gives g c =
    let old = state g.S.Store c.args.conn.now in
    let new = state g.S.Store c.all_rows.new.conn in
    gives all_materials_text [] old new _ _ c.all_rows.result all_materials_selects c.all_rows.ensures.leaves c.all_rows.ensures.rows (λ b has rows. lists_materials old new b has rows) (λ h rows. materials_shown old new h rows)

pub returns-clause-earlier : goal.returns-clause-earlier
returns-clause-earlier g c clean b was =
    let old = state g.S.Store c.args.conn.now in
    let new = state g.S.Store c.all_rows.new.conn in
    rows_given_earlier all_materials_text old new all_materials_selects c.all_rows.ensures.leaves b _ c.all_rows.result clean was
    (λ rows has. lists_materials_of old new earlier_schema has.schema _ earlier_materials_is b.content has.keyed has.stands.materials rows) (c.all_rows.ensures.rows clean)

pub returns-clause-second : goal.returns-clause-second
returns-clause-second g c clean b was =
    let old = state g.S.Store c.args.conn.now in
    let new = state g.S.Store c.all_rows.new.conn in
    rows_given_second all_materials_text old new all_materials_selects c.all_rows.ensures.leaves b _ c.all_rows.result clean was
    (λ rows has. lists_materials_of old new second_schema has.schema _ second_materials_is b.content has.keyed has.stands.materials rows) (c.all_rows.ensures.rows clean)
