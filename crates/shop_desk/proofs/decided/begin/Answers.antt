use Rattle.std.proofs.Common.{◌≡◌, refl}
use Rattle.shop_records.specs.declared.changes.Change.{Change}
use Rattle.shop_records.specs.declared.messages.Command.TheVariants.{Begin}
use Rattle.shop_records.specs.Readings.{unread}
use Rattle.shop_machine.specs.Beginning.{begin_change}
use Rattle.shop_forms.specs.Forms.{json_texts}
use Rattle.shop_desk.proofs.Deciding.{decided_by, same_begin, begin_by}
use Rattle.shop_desk.proofs.decided.begin.Goals as goal

pub returns-clause-decision : goal.returns-clause-decision
returns-clause-decision g c =
    λ clean_disk m held well_formed.
    let before = c.begun.ensures.keeps.clean_disk clean_disk in
    let at = c.job.ensures.keeps.stays before m held in
    let is_job = c.in_ok-job.ensures.row before m held in
    let is_before = c.in_ok-before.ensures.row clean_disk m at in
    decided_by json_texts m (Begin c.args.number) unread refl (g.B.Book.failed c.args.book.now) (g.B.Book.failed c.begun.new.self) _
    (same_begin m c.args.number c.in_ok-job.job c.in_ok-before.before is_job is_before)
    (λ (change : Change). change ≡ begin_change c.args.number c.in_ok-before.before)
    (begin_by m c.args.number c.in_ok-job.job c.in_ok-before.before is_job is_before)
    c.decide_begin.result c.decide_begin.ensures.decision
