use Rattle.std.proofs.Common.{◌∙◌, arith}
use Rattle.std.specs.Prelude.{◌==◌, if◌then◌else◌}
use Rattle.cut_bound.specs.Solutions.{CutUnit}
use Rattle.cut_bound.proofs.PlannedUnits.{planned_done}
use Rattle.cut_bound.proofs.planned.units_at.Goals as goal

pub returns : goal.returns
returns c =
    c.loop-unit.invariant.sum ∙ planned_done (λ (u : CutUnit). if u.place == c.args.place then 1 else 0) c.args.units.now c.loop-unit.unit-index (omega arith)
