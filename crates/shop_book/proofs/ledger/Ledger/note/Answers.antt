use Rattle.std.proofs.Common.{ap, ◌∙◌}
use Rattle.cut_measure.specs.Codes.{code_cmp}
use Rattle.shop_rows.specs.Rows.{row_at}
use Rattle.shop_rows.specs.Keys.{note_key}
use Rattle.shop_book.proofs.Held.{get-rows}
use Rattle.shop_book.proofs.ledger.Ledger.note.Goals as goal

pub returns : goal.returns
returns c =
    c.in_ok-row.ensures ∙ ap (row_at note_key code_cmp c.args.code) c.deref.ensures.value
    ∙ get-rows note_key code_cmp c.args.self.now.notes.items c.args.code c.args.self.now.kept_up.notes_rise
