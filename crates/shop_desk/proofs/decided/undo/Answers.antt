use Rattle.std.proofs.Common.{◌∙◌, refl}
use Rattle.shop_records.specs.declared.messages.Command.TheVariants.{Undo}
use Rattle.shop_records.specs.Readings.{unread}
use Rattle.shop_records.specs.Content.{demand_at}
use Rattle.shop_machine.specs.Recounts.{AreDemandsFound}
use Rattle.shop_forms.specs.Forms.{json_texts}
use Rattle.shop_desk.proofs.Deciding.{Undone, decided_by, same_undo, undo_by}
use Rattle.shop_desk.proofs.decided.undo.Goals as goal

pub returns-clause-decision : goal.returns-clause-decision
returns-clause-decision g c =
    λ clean_disk m held well_formed.
    let before_left = c.left_by_job.ensures.keeps.clean_disk clean_disk in
    let before_halt = c.halt_of_job.ensures.keeps.clean_disk before_left in
    let at_halt = c.job_rows.ensures.keeps.stays before_halt m held in
    let at_left = c.halt_of_job.ensures.keeps.stays before_left m at_halt in
    let is = c.in_ok-job.field-0 in
    let rows = c.in_ok-job.ensures.rows before_halt m held in
    let is_halt = c.in_ok-halt.ensures.row before_left m at_halt in
    let is_left = c.as_slice.ensures ∙ c.in_ok-left.ensures.rows clean_disk m at_left in
    let found : AreDemandsFound (demand_at m) c.deref.result.now = rw c.deref.ensures.value rows.demands in
    decided_by json_texts m (Undo c.args.number) unread refl (g.B.Book.failed c.args.book.now) (g.B.Book.failed c.left_by_job.new.book) _
    (same_undo m c.args.number is.job is.part is.material is.totals is.leaves.items rows c.in_ok-halt.halt c.as_slice.result.now is_halt is_left)
    (Undone m c.args.number is.job is.part is.material is.totals is.leaves.items rows c.in_ok-halt.halt c.as_slice.result.now is_halt is_left)
    (undo_by m c.args.number is.job is.part is.material is.totals is.leaves.items rows c.in_ok-halt.halt c.as_slice.result.now is_halt is_left)
    c.decide_undo.result (c.decide_undo.ensures.decision (demand_at m) found)
