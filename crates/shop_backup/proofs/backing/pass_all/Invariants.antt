use Rattle.std.proofs.Common.{List, take}
use Rattle.shop_backup.specs.Steps.{Adds, ArePassed, BackupStep}
use Rattle.shop_backup.proofs.backing.pass_all.Given as goal

abbrev pub invariant-loop-number : goal.invariant-loop-number
invariant-loop-number g l = (steps : List BackupStep) × ArePassed (take l.number-index l.old) steps × Adds (g.T.BackupTarget.done l.fn.target) (g.T.BackupTarget.done l.target) steps
