use Rattle.std.proofs.Common.{[], ◌∷◌, ◌≡◌, refl}
use Rattle.std.proofs.lemmas.Result.{IfOk-weaker}
use Rattle.sqlite.specs.Held.{state}
use Rattle.sqlite_value.specs.declared.value.Value.TheVariants.{Text}
use Rattle.shop_records.specs.Content.{note_at}
use Rattle.shop_records.specs.declared.notes.OrderNote.{OrderNote}
use Rattle.shop_statements.specs.Rows.{note_columns}
use Rattle.shop_statements.proofs.Texts.{by_one, get_note_text, get_note_terms, get_note_is, get_note_selects}
use Rattle.shop_statements.proofs.Reading.{asked, row_given}
use Rattle.shop_statements.proofs.UnderKeys.{under}
use Rattle.shop_statements.proofs.Finding.{finds_note}
use Rattle.shop_statements.proofs.notes.note_row.Goals as goal

pub returns-clause-row : goal.returns-clause-row
returns-clause-row g c clean b was =
    let old = state g.S.Store c.args.conn.now in
    let new = state g.S.Store c.row_by_text.new.conn in
    row_given get_note_text (Text c.args.order ∷ []) old new get_note_selects c.row_by_text.ensures.leaves (λ (row : OrderNote). row.order ≡ c.args.order) note_columns (note_at b.content c.args.order) b c.row_by_text.result clean was
    (λ rows has. finds_note old new rows b has c.args.order) (λ has. has.keyed.notes c.args.order) (rw c.as_str.ensures.value at (c.row_by_text.ensures.row clean))

pub returns-clause-leaves : goal.returns-clause-leaves
returns-clause-leaves g c = c.row_by_text.ensures.leaves get_note_selects

pub returns-clause-stands : goal.returns-clause-stands
returns-clause-stands g c clean h =
    let old = state g.S.Store c.args.conn.now in
    let new = state g.S.Store c.row_by_text.new.conn in
    IfOk-weaker c.row_by_text.result _ _
    (λ row given. under (old.now.trees 22) 1 (Text c.args.order ∷ []) 2 2 given.rows (asked old new h get_note_text (Text c.args.order ∷ []) 22 by_one get_note_terms _ (get_note_is old.now.schema h) refl given.rows given.shown) row given.among given.none)
    (rw c.as_str.ensures.value at (c.row_by_text.ensures.row clean))
