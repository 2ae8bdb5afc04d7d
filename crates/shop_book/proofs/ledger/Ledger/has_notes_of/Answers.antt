use Rattle.cut_measure.specs.Codes.{code_cmp}
use Rattle.shop_rows.specs.Keys.{note_key}
use Rattle.shop_book.specs.Equal.{note_decides}
use Rattle.shop_book.proofs.Held.{rows_decide}
use Rattle.shop_book.proofs.ledger.Ledger.has_notes_of.Goals as goal

pub returns : goal.returns
returns c =
    let mine = c.args.self.now in
    let its = c.args.other.now in
    rows_decide note_key code_cmp note_decides mine.notes.items its.notes.items c.eq.result c.eq.ensures mine.kept_up.notes_rise its.kept_up.notes_rise
