use Rattle.shop_backup.proofs.Steps.{made-none}
use Rattle.shop_backup.proofs.backing.back_up.Goals as goal

pub returns-clause-err : goal.returns-clause-err
returns-clause-err g c =
    made-none (g.T.BackupTarget.holds c.args.target.now) (g.T.BackupTarget.holds c.begin_next.new.target) c.begin_next.ensures.holds c.args.keep c.in_ok-begun.begun.old.items c.in_ok-begun.begun.number (g.T.BackupTarget.done c.args.target.now)
    (g.T.BackupTarget.done c.begin_next.new.target) c.in_ok-begun.ensures.ok (g.T.BackupTarget.done c.fill.new.target) (g.T.BackupTarget.done c.clear.new.self) c.in-Err.ensures.err c.clear.ensures.cleared
