use Rattle.std.proofs.Common.{[], ◌∷◌, sym, subst, ◌∙◌}
use Rattle.std.specs.Prelude.{IsTrue}
use Rattle.std.proofs.lemmas.Result.{IfOk-weaker}
use Rattle.cut_tree.specs.declared.leaves.Leaf.{Leaf}
use Rattle.cut_tree.specs.Leaves.{leaves_of}
use Rattle.shop_records.specs.Elements.{IsIn}
use Rattle.shop_book.specs.FiledJobs.{AreJobsFiled}
use Rattle.shop_book.specs.Filing.{is_filed_for, is_filed_in}
use Rattle.shop_book.proofs.JobsFiled.{job_filed, pieces_filed}
use Rattle.shop_book.proofs.number_index.NumberIndex.file_job.Goals as goal

pub returns-clause-filed : goal.returns-clause-filed
returns-clause-filed c =
    let job = c.args.job.now in
    let index = c.file_in.new.self in
    let leaves : (leaf : Leaf) → IsIn leaf (leaves_of job.plan.tree job.plan.w job.plan.h job.plan.kerf) → IsTrue (is_filed_for index leaf.demand job.act) =
    λ leaf there. c.file_in.ensures.stays.numbers leaf.demand job.act (c.in_ok-file_leaves.ensures.filed leaf (subst (IsIn leaf) (sym (c.deref.ensures.value ∙ c.in_ok-leaves.ensures)) there)) in
    IfOk-weaker c.file_in.result (λ _. IsTrue (is_filed_in index job.part job.act)) (λ _. AreJobsFiled index (job ∷ []))
    (λ _ filed. job_filed index job (record { part = filed; pieces = pieces_filed index job leaves })) c.file_in.ensures.filed
