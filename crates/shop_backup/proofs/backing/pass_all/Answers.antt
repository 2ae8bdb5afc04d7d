use Rattle.std.proofs.Common.{arith}
use Rattle.shop_backup.proofs.Steps.{passed_next}
use Rattle.shop_backup.proofs.backing.pass_all.Goals as goal

pub loop-number-preserved : goal.loop-number-preserved
loop-number-preserved g c =
    passed_next c.args.old.now c.loop-number.number-index 0 (g.T.BackupTarget.done c.args.target.now) (g.T.BackupTarget.done c.loop-number.target) (g.T.BackupTarget.done c.pass.new.target) (omega arith) c.loop-number.invariant c.pass.ensures
