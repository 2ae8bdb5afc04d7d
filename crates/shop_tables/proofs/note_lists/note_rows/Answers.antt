use Rattle.std.proofs.Common.{[]}
use Rattle.sqlite.specs.Held.{state}
use Rattle.shop_tables.proofs.FirstRows.{lists_notes}
use Rattle.shop_tables.proofs.ListTexts.{all_notes_text, all_notes_selects}
use Rattle.shop_tables.proofs.RowsAsShown.{gives, notes_shown}
use Rattle.shop_tables.proofs.note_lists.note_rows.Goals as goal

pub returns-clause-gives : goal.returns-clause-gives
returns-clause-gives g c =
    let old = state g.S.Store c.args.conn.now in
    let new = state g.S.Store c.all_rows.new.conn in
    gives all_notes_text [] old new _ _ c.all_rows.result all_notes_selects c.all_rows.ensures.leaves c.all_rows.ensures.rows (λ b has rows. lists_notes old new b has rows) (λ h rows. notes_shown old new h rows)
