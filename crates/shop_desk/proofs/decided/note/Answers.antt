use Rattle.std.proofs.Common.{◌≡◌, refl}
use Rattle.shop_records.specs.declared.changes.Change.{Change}
use Rattle.shop_records.specs.declared.messages.Command.TheVariants.{Note}
use Rattle.shop_records.specs.Readings.{unread}
use Rattle.shop_machine.specs.Noting.{note_change}
use Rattle.shop_forms.specs.Forms.{json_texts}
use Rattle.shop_desk.proofs.Deciding.{decided_by, same_note, note_by}
use Rattle.shop_desk.proofs.decided.note.Goals as goal

pub returns-clause-decision : goal.returns-clause-decision
returns-clause-decision g c =
    λ clean_disk m held well_formed.
    let is_known = c.in_ok-known.ensures.row clean_disk m held in
    let is_text = c.in_ok-said.ensures in
    decided_by json_texts m (Note c.args.order c.args.due c.args.text.now) unread refl (g.B.Book.failed c.args.book.now) (g.B.Book.failed c.order.new.self) _
    (same_note m c.args.order c.args.due c.args.text.now c.in_ok-said.said c.in_ok-known.known is_known is_text)
    (λ (change : Change). change ≡ note_change c.args.order c.args.due c.in_ok-said.said)
    (note_by m c.args.order c.args.due c.args.text.now c.in_ok-said.said c.in_ok-known.known is_known is_text)
    c.decide_note.result c.decide_note.ensures.decision
