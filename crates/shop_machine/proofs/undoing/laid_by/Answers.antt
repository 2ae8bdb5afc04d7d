use Rattle.std.proofs.Common.{arith}
use Rattle.cut_tree.specs.Stops.{outcome_of}
use Rattle.cut_tree.proofs.CoveredCells as covered
use Rattle.cut_tree.proofs.OneLaidList.{one_laid}
use Rattle.shop_machine.specs.Undoing.{laid_by}
use Rattle.shop_machine.proofs.undoing.laid_by.Goals as goal

pub returns-clause-rows : goal.returns-clause-rows
returns-clause-rows c =
    let plan = c.args.job.now.plan in
    let kept = c.see.ensures.kept in
    let wide = kept.some_width in
    let high = kept.some_height in
    one_laid plan.tree plan.w plan.h plan.kerf (outcome_of c.args.end.now) c.in_ok-rows.rows.items (laid_by c.args.end.now c.args.job.now) c.in_ok-rows.ensures
    (covered.laid plan.tree plan.w plan.h plan.kerf (outcome_of c.args.end.now) (omega (arith, wide)) (omega (arith, high)) kept.shaped)
