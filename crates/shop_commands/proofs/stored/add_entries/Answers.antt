use Rattle.shop_commands.proofs.Opened.{unadded}
use Rattle.shop_commands.proofs.stored.add_entries.Goals as goal

pub returns-in-Err-clause-err : goal.returns-in-Err-clause-err
returns-in-Err-clause-err g c = unadded g.B.Book c.args.book.now c.add_shop.new.book c.args.entries.now c.in-Err.fault c.from.result c.from.ensures c.in-Err.ensures.err
