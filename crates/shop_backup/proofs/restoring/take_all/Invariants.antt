use Rattle.std.proofs.Common.{take}
use Rattle.shop_backup.specs.Steps.{Adds}
use Rattle.shop_backup.proofs.restoring.take_all.Given as goal

abbrev pub invariant-loop-step : goal.invariant-loop-step
invariant-loop-step g l = Adds (g.P.Place.done l.fn.place) (g.P.Place.done l.place) (take l.step-index l.steps)
