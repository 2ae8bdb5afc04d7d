use Rattle.cut_tree.specs.Stops.{outcome_of}
use Rattle.cut_tree.proofs.OneLaidList.{laid_few}
use Rattle.shop_machine.proofs.ending.laid_rows.Goals as goal

pub returns-clause-few : goal.returns-clause-few
returns-clause-few c =
    λ d.
    let plan = c.args.plan.now in
    let kept = c.see.ensures.kept in
    laid_few plan.tree plan.w plan.h plan.kerf (outcome_of c.args.stop.now) c.in_ok-rows.rows.items d kept.shaped kept.some_width kept.some_height c.in_ok-rows.ensures
