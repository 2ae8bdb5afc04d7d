use Rattle.std.specs.Prelude.{IfSome}
use Rattle.std.proofs.Common.{◌≡◌, refl, sym, ap, subst, inl, ◌∙◌}
use Rattle.shop_records.specs.Messages.{refusal_in}
use Rattle.shop_records.specs.Content.{entry_count, last_time, changed}
use Rattle.shop_machine.specs.Machine.{entering, keeping_at}
use Rattle.shop_records.specs.WellFormed.{Fits}
use Rattle.shop_records.specs.declared.changes.Change.{Change}
use Rattle.shop_forms.specs.Forms.{json_texts}
use Rattle.shop_records.specs.declared.refusals.Refusal.TheVariants.{BadMessage}
use Rattle.shop_records.specs.declared.messages.Reply.TheVariants.{Refused}
use Rattle.shop_desk.specs.Faults.{CountsReply}
use Rattle.shop_desk.specs.Handled.{IsHandledAt}
use Rattle.shop_desk.proofs.Steps.{decided, faulted, committed, failed, counts_made, counted_made, counted_after, is_fault, no_other, to_commit_at, fits_committed, row_committed, justified, commit_justified, store_failed}
use Rattle.shop_desk.proofs.Refusals.{none_refused}
use Rattle.shop_desk.proofs.desk_calls.handle_new.Goals as goal

pub returns-in-Err-clause-step : goal.returns-in-Err-clause-step
returns-in-Err-clause-step g c =
    λ _ is_message clean_disk m held well_formed none.
    decided json_texts g.B.Book.stands c.args.at (g.B.Book.may_leave c.args.book.now) (g.B.Book.may_leave c.decide.new.book) (g.B.Book.holds c.decide.new.book)
    m c.args.message.now c.in-Err.refusal (c.in-Err.ensures.decision clean_disk m held well_formed).decision none well_formed (c.decide.ensures.keeps.stays clean_disk m held) (c.decide.ensures.keeps.crash clean_disk m held)

pub returns-in_default-clause-step : goal.returns-in_default-clause-step
returns-in_default-clause-step g c =
    λ _ is_message clean_disk m held well_formed none.
    faulted json_texts g.B.Book.stands c.args.at (g.B.Book.may_leave c.args.book.now) (g.B.Book.may_leave c.decide.new.book) (g.B.Book.holds c.decide.new.book)
    m c.args.message.now _ (λ n s. n refl) well_formed (c.decide.ensures.keeps.stays clean_disk m held) (c.decide.ensures.keeps.crash clean_disk m held)

pub returns-in_default-keeping_message-clause-step : goal.returns-in_default-keeping_message-clause-step
returns-in_default-keeping_message-clause-step g c =
    λ _ is_message clean_disk m held well_formed none.
    faulted json_texts g.B.Book.stands c.args.at (g.B.Book.may_leave c.args.book.now) (g.B.Book.may_leave c.decide.new.book) (g.B.Book.holds c.decide.new.book)
    m c.args.message.now _ (λ n s. n refl) well_formed (c.decide.ensures.keeps.stays clean_disk m held) (c.decide.ensures.keeps.crash clean_disk m held)

-- the last entry wasn't reported, or no number is left
pub returns-in-Err-entered-clause-step : goal.returns-in-Err-entered-clause-step
returns-in-Err-entered-clause-step g c =
    λ _ is_message clean_disk m held well_formed none.
    let keeps = c.entered.ensures.keeps in
    let before = keeps.clean_disk clean_disk in
    let kept = c.decide.ensures.keeps.stays before m held in
    faulted json_texts g.B.Book.stands c.args.at (g.B.Book.may_leave c.args.book.now) (g.B.Book.may_leave c.entered.new.book) (g.B.Book.holds c.entered.new.book)
    m c.args.message.now c.in-Err-entered.fault (no_other json_texts c.in-Err-entered.fault c.in-Err-entered.ensures.fault) well_formed (keeps.stays clean_disk m kept)
    (λ left it. c.decide.ensures.keeps.crash before m held left (keeps.crash clean_disk m kept left it))

pub returns-in-Err-entered-clause-failures : goal.returns-in-Err-entered-clause-failures
returns-in-Err-entered-clause-failures g c =
    let first = g.B.Book.failed c.args.book.now in
    let decided = g.B.Book.failed c.decide.new.book in
    inl (counted_after first decided (g.B.Book.failed c.entered.new.book) c.in-Err-entered.fault (counted_made first decided c.in-Ok.change c.in-Ok.ensures.keeps.failures) c.in-Err-entered.ensures.keeps.failures)

pub returns-in-Err-entered-clause-store_fault : goal.returns-in-Err-entered-clause-store_fault
returns-in-Err-entered-clause-store_fault g c =
    λ is_message clean_disk m held well_formed is.
    let first = g.B.Book.failed c.args.book.now in
    let decided = g.B.Book.failed c.decide.new.book in
    let last = g.B.Book.failed c.entered.new.book in
    store_failed first last (Refused c.in-Err-entered.fault)
    (counted_after first decided last c.in-Err-entered.fault (counted_made first decided c.in-Ok.change c.in-Ok.ensures.keeps.failures) c.in-Err-entered.ensures.keeps.failures) is

pub returns-in-Err-entered-clause-refused : goal.returns-in-Err-entered-clause-refused
returns-in-Err-entered-clause-refused g c =
    λ clean_disk m held.
    let keeps = c.entered.ensures.keeps in keeps.stays clean_disk m (c.decide.ensures.keeps.stays (keeps.clean_disk clean_disk) m held)

-- the change that is committed keeps the message with both texts, and writes its entry
pub returns-in-Ok-commit-clause-step : goal.returns-in-Ok-commit-clause-step
returns-in-Ok-commit-clause-step g c =
    λ text is_message clean_disk m held well_formed none.
    let entered = c.commit.ensures.clean_disk clean_disk in
    let keeps = c.entered.ensures.keeps in
    let before = keeps.clean_disk entered in
    let decided = c.decide.ensures.keeps.stays before m held in
    let kept = keeps.stays entered m decided in
    let decision = (c.in-Ok.ensures.decision before m held well_formed).decision in
    let change = c.in-Ok-entered.change in
    let made = c.in-Ok.change in
    let is : change ≡ to_commit_at json_texts c.args.at m c.args.message.now made c.args.text c.in-Ok-reply_text.reported (Refused BadMessage) =
    c.in-Ok-entered.ensures.entered entered m decided ∙ ap (λ (x : Change). entering (entry_count m) (last_time m) c.args.at c.args.message.now x) c.in-Ok-keeping_message.ensures.change in
    let row : changed m change ≡ changed m (keeping_at json_texts c.args.at m c.args.message.now made) =
    ap (changed m) is ∙ row_committed json_texts c.args.at m c.args.message.now made c.args.text c.in-Ok-reply_text.reported (Refused BadMessage) text c.in-Ok-reply_text.ensures in
    let fits : Fits m change = subst (Fits m) (sym is) (fits_committed json_texts c.args.at m c.args.message.now decision.0 made c.args.text c.in-Ok-reply_text.reported (Refused BadMessage) c.in-Ok-reply_text.ensures none well_formed decision.1 decision.2 decision.3) in
    subst (λ answer. IsHandledAt json_texts g.B.Book.stands c.args.at (g.B.Book.may_leave c.args.book.now) (g.B.Book.may_leave c.commit.new.self) (g.B.Book.holds c.commit.new.self) m c.args.message.now answer)
    (sym c.in-Ok-keeping_message.ensures.reply)
    (committed json_texts g.B.Book.stands c.args.at (g.B.Book.may_leave c.args.book.now) (g.B.Book.may_leave c.entered.new.book) (g.B.Book.may_leave c.commit.new.self) (g.B.Book.holds c.commit.new.self)
    m c.args.message.now decision.0 change made is_message none well_formed decision.1 decision.2 decision.3 row (c.in-Ok-commit.ensures.ok clean_disk m kept fits) (c.in-Ok-commit.ensures.lasts clean_disk m kept fits))

pub returns-in-Ok-commit-clause-failures : goal.returns-in-Ok-commit-clause-failures
returns-in-Ok-commit-clause-failures g c =
    inl (subst (λ answer. CountsReply answer (g.B.Book.failed c.args.book.now) (g.B.Book.failed c.commit.new.self)) (sym c.in-Ok-keeping_message.ensures.reply)
    (counts_made (g.B.Book.failed c.args.book.now) (g.B.Book.failed c.commit.new.self) c.in-Ok.change.reply c.in-Ok.ensures.reported
    (c.in-Ok-commit.ensures.failures ∙ c.in-Ok-entered.ensures.keeps.failures ∙ counted_made (g.B.Book.failed c.args.book.now) (g.B.Book.failed c.decide.new.book) c.in-Ok.change c.in-Ok.ensures.keeps.failures)))

pub returns-in-Err-commit-clause-step : goal.returns-in-Err-commit-clause-step
returns-in-Err-commit-clause-step g c =
    λ text is_message clean_disk m held well_formed none.
    let entered = c.commit.ensures.clean_disk clean_disk in
    let keeps = c.entered.ensures.keeps in
    let before = keeps.clean_disk entered in
    let decided = c.decide.ensures.keeps.stays before m held in
    let kept = keeps.stays entered m decided in
    let decision = (c.in-Ok.ensures.decision before m held well_formed).decision in
    let change = c.in-Ok-entered.change in
    let made = c.in-Ok.change in
    let is : change ≡ to_commit_at json_texts c.args.at m c.args.message.now made c.args.text c.in-Ok-reply_text.reported (Refused BadMessage) =
    c.in-Ok-entered.ensures.entered entered m decided ∙ ap (λ (x : Change). entering (entry_count m) (last_time m) c.args.at c.args.message.now x) c.in-Ok-keeping_message.ensures.change in
    let row : changed m change ≡ changed m (keeping_at json_texts c.args.at m c.args.message.now made) =
    ap (changed m) is ∙ row_committed json_texts c.args.at m c.args.message.now made c.args.text c.in-Ok-reply_text.reported (Refused BadMessage) text c.in-Ok-reply_text.ensures in
    let fits : Fits m change = subst (Fits m) (sym is) (fits_committed json_texts c.args.at m c.args.message.now decision.0 made c.args.text c.in-Ok-reply_text.reported (Refused BadMessage) c.in-Ok-reply_text.ensures none well_formed decision.1 decision.2 decision.3) in
    failed json_texts g.B.Book.stands c.args.at (g.B.Book.may_leave c.args.book.now) (g.B.Book.may_leave c.entered.new.book) (g.B.Book.may_leave c.commit.new.self) (g.B.Book.holds c.commit.new.self)
    m c.args.message.now decision.0 change made is_message none well_formed decision.1 decision.2 decision.3 row c.from.result (is_fault json_texts c.from.result c.in-Err-commit.fault c.from.ensures)
    (c.in-Err-commit.ensures.err clean_disk m kept) (λ left it. c.decide.ensures.keeps.crash before m held left (keeps.crash entered m decided left it)) (c.commit.ensures.crash clean_disk m kept fits)

pub returns-in-Err-clause-store_fault : goal.returns-in-Err-clause-store_fault
returns-in-Err-clause-store_fault g c =
    λ is_message clean_disk m held well_formed is. justified json_texts m c.args.message.now (g.B.Book.failed c.args.book.now) (g.B.Book.failed c.decide.new.book) c.in-Err.refusal well_formed (c.in-Err.ensures.decision clean_disk m held well_formed).store_fault_justified is

pub returns-in-Err-commit-clause-store_fault : goal.returns-in-Err-commit-clause-store_fault
returns-in-Err-commit-clause-store_fault g c =
    λ is_message clean_disk m held well_formed is.
    let first = g.B.Book.failed c.args.book.now in
    let decided = g.B.Book.failed c.decide.new.book in
    let entered = g.B.Book.failed c.entered.new.book in
    commit_justified (Unit {0}) first entered (g.B.Book.failed c.commit.new.self) c.in-Err-commit.fault c.from.result
    (c.in-Ok-entered.ensures.keeps.failures ∙ counted_made first decided c.in-Ok.change c.in-Ok.ensures.keeps.failures)
    c.in-Err-commit.ensures.failures c.from.ensures is

pub returns-in-Ok-commit-clause-refused : goal.returns-in-Ok-commit-clause-refused
returns-in-Ok-commit-clause-refused g c =
    λ clean_disk m held.
    subst (λ answer. IfSome (refusal_in answer) (λ refusal. g.B.Book.holds c.commit.new.self m)) (sym c.in-Ok-keeping_message.ensures.reply)
    (none_refused c.in-Ok.change.reply _ c.in-Ok.ensures.reported)
