use Rattle.shop_backup.proofs.Steps.{at_err, begun, unmade}
use Rattle.shop_backup.proofs.backing.begin_next.Goals as goal

pub returns-clause-ok : goal.returns-clause-ok
returns-clause-ok g c =
    let new = c.in_ok-begun.ensures.ok in
    begun c.in_ok-there.there.all.items c.in_ok-there.there.whole.items (g.T.BackupTarget.done c.args.target.now) (g.T.BackupTarget.done c.look.new.self) (g.T.BackupTarget.done c.list.new.self) (g.T.BackupTarget.done c.begin_beside.new.target)
    c.in_ok-look.ensures.ok c.in_ok-there.ensures.ok c.args.keep c.in_ok-begun.begun.old.items c.in_ok-begun.begun.number new.1 c.in_ok-there.ensures.within new.0 new.2

pub returns-in_err-begun-clause-err : goal.returns-in_err-begun-clause-err
returns-in_err-begun-clause-err g c =
    at_err c.from_residual-in_err-begun.result _
    (unmade c.in_ok-there.there.all.items c.in_ok-there.there.whole.items (g.T.BackupTarget.done c.args.target.now) (g.T.BackupTarget.done c.look.new.self) (g.T.BackupTarget.done c.list.new.self) (g.T.BackupTarget.done c.begin_beside.new.target)
    c.in_ok-look.ensures.ok c.in_ok-there.ensures.ok c.in_err-begun.ensures.err)
