use Rattle.std.proofs.Common.{refl}
use Rattle.sqlite.specs.Held.{state}
use Rattle.shop_statements.specs.Rows.{note_row}
use Rattle.shop_statements.specs.Changes.{with_note}
use Rattle.shop_statements.proofs.Texts.{put_note_text, put_note_is, put_note_terms}
use Rattle.shop_statements.proofs.Writing.{makes}
use Rattle.shop_statements.proofs.Noting.{puts_note}
use Rattle.shop_statements.specs.Layout.{notes_table}
use Rattle.shop_statements.proofs.Beside.{puts_beside}
use Rattle.shop_statements.proofs.notes.add_note.Goals as goal

pub returns-clause-put : goal.returns-clause-put
returns-clause-put g c b fresh =
    let old = state g.S.Store c.args.tx.now.conn.now in
    let new = state g.S.Store c.run.new.tx.conn.now in
    makes put_note_text (note_row (c.args.note.now.order, c.args.note.now)) old new b (with_note c.args.note.now b) c.run.result (rw (c.params-to_sql.ensures, c.params-to_sql-2.ensures, c.params-to_sql-3.ensures, c.as_str.ensures.value, c.as_str-2.ensures.value) at c.run.ensures.has_run)
    (λ count has ran. puts_note old new count b has c.args.note.now fresh ran)

pub returns-clause-others : goal.returns-clause-others
returns-clause-others g c =
    let old = state g.S.Store c.args.tx.now.conn.now in
    puts_beside put_note_text _ old (state g.S.Store c.run.new.tx.conn.now) c.run.result 12 notes_table (λ h. h.notes) (λ h. refl) put_note_terms 4 (put_note_is old.now.schema) c.run.ensures.has_run
