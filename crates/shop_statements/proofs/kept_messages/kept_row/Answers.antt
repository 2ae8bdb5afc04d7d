use Rattle.std.proofs.Common.{pos, [], ◌∷◌, refl}
use Rattle.sqlite.specs.Held.{state}
use Rattle.sqlite_value.specs.declared.value.Value.TheVariants.{Int}
use Rattle.shop_records.specs.Content.{kept_at}
use Rattle.shop_records.specs.declared.texts.Kept.{Kept}
use Rattle.shop_statements.specs.Rows.{kept_columns}
use Rattle.shop_statements.proofs.Texts.{by_two, get_kept_text, get_kept_terms, get_kept_is, get_kept_selects}
use Rattle.shop_statements.proofs.Reading.{asked, row_given}
use Rattle.shop_statements.proofs.UnderKeys.{under}
use Rattle.shop_statements.proofs.Finding.{finds_kept}
use Rattle.shop_statements.proofs.kept_messages.kept_row.Goals as goal
use Rattle.std.proofs.lemmas.Result.{IfOk-weaker}

pub returns-clause-row : goal.returns-clause-row
returns-clause-row g c clean b was =
    let old = state g.S.Store c.args.conn.now in
    let new = state g.S.Store c.row_by_two.new.conn in
    row_given get_kept_text (Int (pos c.args.message_id.terminal) ∷ Int (pos c.args.message_id.number) ∷ []) old new get_kept_selects c.row_by_two.ensures.leaves (λ (kept : Kept). Unit {0}) kept_columns (kept_at b.content c.args.message_id) b c.row_by_two.result clean was
    (λ rows has. finds_kept old new rows b has c.args.message_id) (λ has x there. tt) (c.row_by_two.ensures.row clean)

pub returns-clause-leaves : goal.returns-clause-leaves
returns-clause-leaves g c = c.row_by_two.ensures.leaves get_kept_selects

pub returns-clause-stands : goal.returns-clause-stands
returns-clause-stands g c clean h =
    let old = state g.S.Store c.args.conn.now in
    let new = state g.S.Store c.row_by_two.new.conn in
    IfOk-weaker c.row_by_two.result _ _
    (λ row given. under (old.now.trees 11) 1 (Int (pos c.args.message_id.terminal) ∷ Int (pos c.args.message_id.number) ∷ []) 2 3 given.rows (asked old new h get_kept_text (Int (pos c.args.message_id.terminal) ∷ Int (pos c.args.message_id.number) ∷ []) 11 by_two get_kept_terms _ (get_kept_is old.now.schema h) refl given.rows given.shown) row given.among given.none)
    (c.row_by_two.ensures.row clean)
