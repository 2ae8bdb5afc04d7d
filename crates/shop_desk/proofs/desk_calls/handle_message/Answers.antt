use Rattle.std.proofs.Common.{◌≡◌, refl, sym, ◌∙◌}
use Rattle.std.specs.Prelude.{Some, None}
use Rattle.shop_records.specs.Messages.{message_id_of}
use Rattle.shop_records.specs.Content.{kept_at}
use Rattle.shop_forms.specs.Forms.{json_texts}
use Rattle.shop_desk.proofs.Steps.{handled_later, faulted, repeated, is_fault}
use Rattle.shop_desk.proofs.desk_calls.handle_message.Goals as goal

pub returns-in_default-clause-timed : goal.returns-in_default-clause-timed
returns-in_default-clause-timed g c =
    λ clean_disk m held well_formed.
    faulted json_texts g.B.Book.stands c.args.at (g.B.Book.may_leave c.args.book.now) (g.B.Book.may_leave c.args.book.now) (g.B.Book.holds c.args.book.now)
    m c.args.message.now _ (λ n s. n refl) well_formed held (λ left it. it)

pub returns-in-Ok-None-clause-timed : goal.returns-in-Ok-None-clause-timed
returns-in-Ok-None-clause-timed g c =
    λ clean_disk m held well_formed.
    let before = c.handle_new.ensures.clean_disk clean_disk in
    let none : kept_at m (message_id_of c.args.message.now) ≡ None = sym (c.in-Ok-None.ensures.row before m held) ∙ c.in-Ok-None.field-0-is in
    handled_later json_texts g.B.Book.stands c.args.at (g.B.Book.may_leave c.args.book.now) (g.B.Book.may_leave c.kept.new.self) (g.B.Book.may_leave c.handle_new.new.book) (g.B.Book.holds c.handle_new.new.book)
    m c.args.message.now c.handle_new.result.0 (c.kept.ensures.keeps.crash before m held)
    (c.handle_new.ensures.step c.in-Ok.ensures.text c.message_text.ensures.message clean_disk m (c.kept.ensures.keeps.stays before m held) well_formed none)

pub returns-in-Ok-Some-clause-timed : goal.returns-in-Ok-Some-clause-timed
returns-in-Ok-Some-clause-timed g c =
    λ clean_disk m held well_formed.
    let some : kept_at m (message_id_of c.args.message.now) ≡ Some c.in-Ok-Some.kept = sym (c.in-Ok-Some.ensures.row clean_disk m held) ∙ c.in-Ok-Some.field-0-is in
    repeated json_texts g.B.Book.stands c.args.at (g.B.Book.may_leave c.args.book.now) (g.B.Book.may_leave c.kept.new.self) (g.B.Book.holds c.kept.new.self)
    m c.args.message.now c.answer_again.result c.in-Ok-Some.kept some
    (c.answer_again.ensures c.args.message.now c.in-Ok.ensures.text (message_id_of c.args.message.now) (well_formed.kept (message_id_of c.args.message.now) c.in-Ok-Some.kept some)).0
    well_formed (c.kept.ensures.keeps.stays clean_disk m held) (c.kept.ensures.keeps.crash clean_disk m held)

pub returns-in-Ok-Some-clause-store_fault : goal.returns-in-Ok-Some-clause-store_fault
returns-in-Ok-Some-clause-store_fault g c =
    λ clean_disk m held well_formed is.
    let some : kept_at m (message_id_of c.args.message.now) ≡ Some c.in-Ok-Some.kept = sym (c.in-Ok-Some.ensures.row clean_disk m held) ∙ c.in-Ok-Some.field-0-is in
    absurd ((c.answer_again.ensures c.args.message.now c.in-Ok.ensures.text (message_id_of c.args.message.now) (well_formed.kept (message_id_of c.args.message.now) c.in-Ok-Some.kept some)).1 is)

pub returns-in-Err-clause-timed : goal.returns-in-Err-clause-timed
returns-in-Err-clause-timed g c =
    λ clean_disk m held well_formed.
    faulted json_texts g.B.Book.stands c.args.at (g.B.Book.may_leave c.args.book.now) (g.B.Book.may_leave c.kept.new.self) (g.B.Book.holds c.kept.new.self)
    m c.args.message.now c.from.result (is_fault json_texts c.from.result c.in-Err.fault c.from.ensures) well_formed (c.kept.ensures.keeps.stays clean_disk m held) (c.kept.ensures.keeps.crash clean_disk m held)
