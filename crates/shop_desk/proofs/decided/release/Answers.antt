use Rattle.std.proofs.Common.{refl}
use Rattle.cut_tree.specs.declared.halts.Stop.TheVariants.{All}
use Rattle.shop_records.specs.declared.messages.Command.TheVariants.{Release}
use Rattle.shop_records.specs.Content.{demand_at}
use Rattle.shop_machine.specs.Recounts.{AreDemandsFound}
use Rattle.shop_machine.specs.Ending.{IsRelease}
use Rattle.shop_forms.specs.Forms.{json_texts}
use Rattle.shop_desk.proofs.Deciding.{end_decided}
use Rattle.shop_desk.proofs.decided.release.Goals as goal

pub returns-clause-decision : goal.returns-clause-decision
returns-clause-decision g c =
    λ clean_disk m held well_formed.
    let is = c.in_ok-job.field-0 in
    let rows = c.in_ok-job.ensures.rows clean_disk m held in
    let found : AreDemandsFound (demand_at m) c.deref.result.now = rw c.deref.ensures.value rows.demands in
    end_decided m c.args.number is.job is.part is.material is.totals is.leaves.items rows All json_texts (Release c.args.number) refl refl
    (λ change totals j part material. IsRelease j part (demand_at m) change) (λ change it. it) (g.B.Book.failed c.args.book.now) (g.B.Book.failed c.job_rows.new.book) c.decide_release.result
    (c.decide_release.ensures.decision (demand_at m) found)
