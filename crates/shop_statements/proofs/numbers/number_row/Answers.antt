use Rattle.std.proofs.Common.{pos, Some, [], ◌∷◌, arith}
use Rattle.std.proofs.lemmas.Result.{IfOk-weaker}
use Rattle.sqlite.specs.State.{HasCleanDisk}
use Rattle.sqlite.specs.Held.{state}
use Rattle.sqlite_value.specs.declared.value.Value.TheVariants.{Int, Text}
use Rattle.shop_statements.proofs.Texts.{get_meta_text, get_meta_selects}
use Rattle.shop_statements.proofs.Reading.{held_row}
use Rattle.shop_statements.specs.Earlier.{earlier_entries, earlier_schema, second_entries, second_schema}
use Rattle.shop_statements.proofs.Finding.{finds_number, finds_number_of}
use Rattle.shop_statements.proofs.Kept.{shown_open}
use Rattle.shop_statements.proofs.Versions.{given_stands, earlier_meta_is, second_meta_is}
use Rattle.shop_statements.proofs.numbers.number_row.Goals as goal

pub returns-clause-row : goal.returns-clause-row
returns-clause-row g c clean b was n once =
    let old = state g.S.Store c.args.conn.now in
    let new = state g.S.Store c.row_by_text.new.conn in
    let left = c.row_by_text.ensures.leaves get_meta_selects in
    let before : HasCleanDisk old = omega (arith, left.survives.clean) in
    IfOk-weaker c.row_by_text.result _ _
    (λ row given. held_row get_meta_text (Text c.args.word.now ∷ []) old new b row (Some (Int (pos n) ∷ [])) before was given (λ rows has. finds_number old new rows b has c.args.word.now n once))
    (c.row_by_text.ensures.row clean)

pub returns-clause-earlier : goal.returns-clause-earlier
returns-clause-earlier g c clean b was n once =
    let old = state g.S.Store c.args.conn.now in
    let new = state g.S.Store c.row_by_text.new.conn in
    let left = c.row_by_text.ensures.leaves get_meta_selects in
    let before : HasCleanDisk old = omega (arith, left.survives.clean) in
    IfOk-weaker c.row_by_text.result _ _
    (λ row given.
    let has = (was before (shown_open get_meta_text (Text c.args.word.now ∷ []) old new given.rows given.shown)).shows in
    given.only (Some (Int (pos n) ∷ [])) (finds_number_of old new earlier_schema has.schema _ earlier_meta_is (earlier_entries b.content) has.stands.meta given.rows c.args.word.now n once given.shown))
    (c.row_by_text.ensures.row clean)

pub returns-clause-second : goal.returns-clause-second
returns-clause-second g c clean b was n once =
    let old = state g.S.Store c.args.conn.now in
    let new = state g.S.Store c.row_by_text.new.conn in
    let left = c.row_by_text.ensures.leaves get_meta_selects in
    let before : HasCleanDisk old = omega (arith, left.survives.clean) in
    IfOk-weaker c.row_by_text.result _ _
    (λ row given.
    let has = (was before (shown_open get_meta_text (Text c.args.word.now ∷ []) old new given.rows given.shown)).shows in
    given.only (Some (Int (pos n) ∷ [])) (finds_number_of old new second_schema has.schema _ second_meta_is (second_entries b.content) has.stands.meta given.rows c.args.word.now n once given.shown))
    (c.row_by_text.ensures.row clean)

pub returns-clause-leaves : goal.returns-clause-leaves
returns-clause-leaves g c = c.row_by_text.ensures.leaves get_meta_selects

pub returns-clause-stands : goal.returns-clause-stands
returns-clause-stands g c clean which =
    let old = state g.S.Store c.args.conn.now in
    let new = state g.S.Store c.row_by_text.new.conn in
    IfOk-weaker c.row_by_text.result _ _ (λ row given. given_stands old new which c.args.word.now row given) (c.row_by_text.ensures.row clean)
