use Rattle.shop_commands.proofs.Opened.{unaccepted}
use Rattle.shop_commands.proofs.stored.serve_connections.Goals as goal

pub returns-in-Err-clause-err : goal.returns-in-Err-clause-err
returns-in-Err-clause-err g c = unaccepted g.B.Book c.args.site.now c.args.book.now c.serve_on.new.book c.args.limit c.in-Err.fault c.from.result c.from.ensures c.in-Err.ensures.err
