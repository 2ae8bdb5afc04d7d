use Rattle.std.proofs.Common.{sym}
use Rattle.cut_example.proofs.trees.rows_of.Goals as goal

pub returns : goal.returns
returns c =
    let unit = c.in_ok-plan.ensures.unit in
    (c.in_ok-plan.plan.tree, c.in_ok-plan.ensures.spelled, rw (sym unit.0, sym unit.1, sym unit.2) c.in_ok-lay.ensures)
