use Rattle.std.proofs.Common.{◌∙◌, arith}
use Rattle.cut_tree.specs.Tree.{count_of}
use Rattle.cut_bound.specs.Solutions.{CutUnit}
use Rattle.cut_bound.proofs.PlannedUnits.{planned_done}
use Rattle.cut_bound.proofs.planned.pieces_of.Goals as goal

pub returns : goal.returns
returns c = c.loop-unit.invariant.sum ∙ planned_done (λ (u : CutUnit). count_of u.tree c.args.demand) c.args.units.now c.loop-unit.unit-index (omega arith)
