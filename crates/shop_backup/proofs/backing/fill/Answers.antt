use Rattle.shop_backup.proofs.Steps.{both_filled, on_err}
use Rattle.shop_backup.proofs.backing.fill.Goals as goal

pub returns-clause-err : goal.returns-clause-err
returns-clause-err g c =
    on_err c.finish.result _ _ (λ same.
    both_filled (g.T.BackupTarget.holds c.args.target.now) (g.T.BackupTarget.holds c.copy_half.new.target) c.copy_half.ensures.holds c.args.number (g.T.BackupTarget.done c.args.target.now) (g.T.BackupTarget.done c.copy_half.new.target)
    (g.T.BackupTarget.done c.copy_half-2.new.target) (g.T.BackupTarget.done c.finish.new.self) c.in_ok-copy_half.ensures.ok c.in_ok-copy_half-2.ensures.ok same) c.finish.ensures.err
