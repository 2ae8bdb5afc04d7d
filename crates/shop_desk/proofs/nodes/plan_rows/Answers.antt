use Rattle.cut_tree.specs.Stepping.{AreSteps}
use Rattle.shop_desk.proofs.nodes.plan_rows.Goals as goal

pub returns-clause-rows : goal.returns-clause-rows
returns-clause-rows g c =
    λ clean_disk m held.
    let plan = c.args.job.now.plan in
    let steps : AreSteps plan.tree plan.w plan.h plan.kerf c.deref.result.now = rw c.deref.ensures.value c.in_ok-steps.ensures in
    (c.deref.result.now, steps, c.in_ok-rows.ensures.rows clean_disk m held)
