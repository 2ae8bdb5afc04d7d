use Rattle.std.proofs.Common.{map, arith}
use Rattle.std.specs.FinMap.{entries}
use Rattle.sqlite.specs.Held.{state}
use Rattle.sqlite.specs.State.{HasCleanDisk}
use Rattle.shop_statements.specs.Earlier.{ShowsEarlier, ShowsSecond, earlier_schema, second_schema}
use Rattle.shop_tables.specs.Listing.{AreCodes, key_of}
use Rattle.shop_statements.specs.Shown.{Shows}
use Rattle.shop_tables.proofs.AllTotals.{all_coded}
use Rattle.shop_tables.proofs.EarlierRows.{earlier_codes_is, rows_given_earlier}
use Rattle.shop_tables.proofs.Ordered.{lists_codes, lists_codes_of, rows_given, seen_then}
use Rattle.shop_tables.proofs.ListTexts.{all_codes_text, all_codes_selects}
use Rattle.shop_tables.proofs.SecondRows.{second_codes_is, rows_given_second}
use Rattle.shop_tables.proofs.listing.material_rows.Goals as goal

pub returns-clause-rows : goal.returns-clause-rows
returns-clause-rows g c clean b was =
    let old = state g.S.Store c.args.conn.now in
    let new = state g.S.Store c.all_rows.new.conn in
    rows_given all_codes_text old new all_codes_selects c.all_rows.ensures.leaves b _ c.all_rows.result clean was (λ rows has. lists_codes old new b has rows) (c.all_rows.ensures.rows clean)

pub returns-clause-earlier : goal.returns-clause-earlier
returns-clause-earlier g c clean b was =
    let old = state g.S.Store c.args.conn.now in
    let new = state g.S.Store c.all_rows.new.conn in
    rows_given_earlier all_codes_text old new all_codes_selects c.all_rows.ensures.leaves b _ c.all_rows.result clean was
    (λ rows has. lists_codes_of old new earlier_schema has.schema _ earlier_codes_is b.content.materials has.stands.materials rows) (c.all_rows.ensures.rows clean)

pub returns-clause-coded : goal.returns-clause-coded
returns-clause-coded g c clean b was =
    let old = state g.S.Store c.args.conn.now in
    let before : HasCleanDisk old = let l = (c.all_rows.ensures.leaves all_codes_selects).survives.clean in omega (arith, l) in
    seen_then all_codes_text old (state g.S.Store c.all_rows.new.conn) (Shows old b) (AreCodes (map key_of (entries b.content.materials))) c.all_rows.result (λ up. (was before up).shows)
    (λ has. all_coded b.content.materials has.keyed.codes) (c.all_rows.ensures.rows clean)

pub returns-clause-earlier_coded : goal.returns-clause-earlier_coded
returns-clause-earlier_coded g c clean b was =
    let old = state g.S.Store c.args.conn.now in
    let before : HasCleanDisk old = let l = (c.all_rows.ensures.leaves all_codes_selects).survives.clean in omega (arith, l) in
    seen_then all_codes_text old (state g.S.Store c.all_rows.new.conn) (ShowsEarlier old b) (AreCodes (map key_of (entries b.content.materials))) c.all_rows.result (λ up. (was before up).shows)
    (λ has. all_coded b.content.materials has.keyed.codes) (c.all_rows.ensures.rows clean)

pub returns-clause-leaves : goal.returns-clause-leaves
returns-clause-leaves g c = c.all_rows.ensures.leaves all_codes_selects

pub returns-clause-second : goal.returns-clause-second
returns-clause-second g c clean b was =
    let old = state g.S.Store c.args.conn.now in
    let new = state g.S.Store c.all_rows.new.conn in
    rows_given_second all_codes_text old new all_codes_selects c.all_rows.ensures.leaves b _ c.all_rows.result clean was
    (λ rows has. lists_codes_of old new second_schema has.schema _ second_codes_is b.content.materials has.stands.materials rows) (c.all_rows.ensures.rows clean)

pub returns-clause-second_coded : goal.returns-clause-second_coded
returns-clause-second_coded g c clean b was =
    let old = state g.S.Store c.args.conn.now in
    let before : HasCleanDisk old = let l = (c.all_rows.ensures.leaves all_codes_selects).survives.clean in omega (arith, l) in
    seen_then all_codes_text old (state g.S.Store c.all_rows.new.conn) (ShowsSecond old b) (AreCodes (map key_of (entries b.content.materials))) c.all_rows.result (λ up. (was before up).shows)
    (λ has. all_coded b.content.materials has.keyed.codes) (c.all_rows.ensures.rows clean)
