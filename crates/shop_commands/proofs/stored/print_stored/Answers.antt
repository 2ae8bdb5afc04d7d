use Rattle.shop_commands.specs.Stored.{text_of}
use Rattle.shop_commands.specs.Sinks.{change_of}
use Rattle.shop_commands.proofs.Opened.{text_done, text_stopped}
use Rattle.shop_commands.proofs.stored.print_stored.Goals as goal

pub returns-in-Ok-clause-ok : goal.returns-in-Ok-clause-ok
returns-in-Ok-clause-ok g c =
    text_done g.B.Book (g.O.Opens.gives c.args.stores c.args.store.now) (text_of c.args.text) c.in_ok-book.book c.print_text-printed.new.book
    (change_of g.W.Sink c.args.sink.now c.print_text-printed.new.sink) c.in_ok-book.ensures.ok c.print_text-printed.result c.print_text-printed.ensures c.in-Ok.is

pub returns-in-Err-clause-err : goal.returns-in-Err-clause-err
returns-in-Err-clause-err g c =
    text_stopped g.B.Book (g.O.Opens.gives c.args.stores c.args.store.now) (text_of c.args.text) c.in_ok-book.book c.print_text-printed.new.book
    (change_of g.W.Sink c.args.sink.now c.print_text-printed.new.sink) c.in_ok-book.ensures.ok c.print_text-printed.result c.print_text-printed.ensures
    c.in-Err.fault c.from.result c.in-Err.is c.from.ensures
