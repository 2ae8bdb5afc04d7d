use Rattle.std.proofs.Common.{[], ◌∷◌, refl}
use Rattle.sqlite.specs.Held.{state}
use Rattle.sqlite_value.specs.declared.value.Value.TheVariants.{Text}
use Rattle.shop_statements.specs.Changes.{without_note}
use Rattle.shop_statements.proofs.Texts.{clear_note_text, clear_note_is}
use Rattle.shop_statements.proofs.Writing.{makes}
use Rattle.shop_statements.proofs.Noting.{clears_note}
use Rattle.shop_statements.specs.Layout.{notes_table}
use Rattle.shop_statements.proofs.Beside.{clears_beside}
use Rattle.shop_statements.proofs.notes.clear_note.Goals as goal

pub returns-clause-put : goal.returns-clause-put
returns-clause-put g c b =
    let old = state g.S.Store c.args.tx.now.conn.now in
    let new = state g.S.Store c.run.new.tx.conn.now in
    makes clear_note_text (Text c.args.order ∷ []) old new b (without_note c.args.order b) c.run.result (rw (c.params-to_sql.ensures, c.as_str.ensures.value) at c.run.ensures.has_run)
    (λ count has ran. clears_note old new count b has c.args.order ran)

pub returns-clause-others : goal.returns-clause-others
returns-clause-others g c =
    let old = state g.S.Store c.args.tx.now.conn.now in
    clears_beside clear_note_text _ old (state g.S.Store c.run.new.tx.conn.now) c.run.result 12 notes_table (λ h. h.notes) (λ h. refl) _ (clear_note_is old.now.schema) c.run.ensures.has_run
