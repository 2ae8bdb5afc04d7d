use Rattle.shop_desk.proofs.Justified.{up_answer}
use Rattle.shop_wire.specs.Replays.{line_message}
use Rattle.shop_wire.proofs.Acted.{message_kept, message_served, message_refused, message_timed, unread_timed}
use Rattle.shop_wire.proofs.asking.message_reply.Goals as goal

pub returns-in-Ok-clause-served : goal.returns-in-Ok-clause-served
returns-in-Ok-clause-served g c = λ clean_disk m held well_formed.
    let l = c.handle_with_text_at.ensures.step clean_disk m held well_formed in
    message_served g.B.Book c.args.book.now c.handle_with_text_at.new.book m c.args.body.now c.in-Ok.message c.handle_with_text_at.result.0 l.next c.in-Ok.ensures c.handle_with_text_at.ensures.message l.step l.held l.well_formed l.crash
    (c.handle_with_text_at.ensures.store_fault clean_disk m held well_formed)

pub returns-in-Ok-clause-timed : goal.returns-in-Ok-clause-timed
returns-in-Ok-clause-timed g c = λ clean_disk m held well_formed.
    let l = c.handle_with_text_at.ensures.timed clean_disk m held well_formed in
    message_timed g.B.Book c.args.book.now c.handle_with_text_at.new.book m c.args.at c.args.body.now c.in-Ok.message c.handle_with_text_at.result.0 l.handled.next c.in-Ok.ensures l.timed l.handled.held

pub returns-in-Ok-clause-failures : goal.returns-in-Ok-clause-failures
returns-in-Ok-clause-failures g c = up_answer (g.B.Book.failed c.args.book.now) (g.B.Book.failed c.handle_with_text_at.new.book) c.handle_with_text_at.result.0 c.handle_with_text_at.ensures.failures

pub returns-in-Err-clause-served : goal.returns-in-Err-clause-served
returns-in-Err-clause-served g c = λ clean_disk m held well_formed.
    message_refused g.B.Book c.args.book.now c.args.book.now m c.args.body.now c.in-Err.refusal c.in-Err.ensures held well_formed (λ left it. it)

pub returns-in-Err-clause-timed : goal.returns-in-Err-clause-timed
returns-in-Err-clause-timed g c = λ clean_disk m held well_formed. unread_timed g.B.Book c.args.book.now c.args.book.now m c.args.at (line_message c.args.body.now) c.in-Err.refusal c.in-Err.ensures held

pub returns-in-Ok-clause-stays : goal.returns-in-Ok-clause-stays
returns-in-Ok-clause-stays g c =
    message_kept g.B.Book c.args.book.now c.handle_with_text_at.new.book c.args.body.now c.in-Ok.message c.handle_with_text_at.result.0 c.in-Ok.ensures c.handle_with_text_at.ensures.refused

pub returns-in-Err-clause-stays : goal.returns-in-Err-clause-stays
returns-in-Err-clause-stays g c = λ clean_disk m held nothing. held
