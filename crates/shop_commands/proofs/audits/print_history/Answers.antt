use Rattle.std.proofs.Common.{◌∙◌, ap, sym, subst}
use Rattle.std.specs.Prelude.{Err}
use Rattle.shop_commands.specs.Audits.{IsHistoryDone, IsHistoryStopped}
use Rattle.shop_commands.specs.Sinks.{change_of}
use Rattle.shop_commands.proofs.Audited.{history_done, history_stopped}
use Rattle.shop_commands.proofs.audits.print_history.Goals as goal

pub returns-in-Ok-clause-ok : goal.returns-in-Ok-clause-ok
returns-in-Ok-clause-ok g c =
    let out = change_of g.W.Sink c.args.sink.now c.write_history-written.new.sink in
    let gives = g.O.Opens.gives c.args.stores c.args.store.now in
    let said = c.write_history-written.ensures in
    subst (λ after. IsHistoryDone g.B.Book gives after out) c.number_of.ensures
    (history_done g.B.Book c.in_ok-book.book c.write_history-written.new.book out gives c.in_ok-book.ensures.ok said.keeps c.number_of.result c.write_history-written.result c.in-Ok.is said.ok)

pub returns-in-Err-clause-err : goal.returns-in-Err-clause-err
returns-in-Err-clause-err g c =
    let out = change_of g.W.Sink c.args.sink.now c.write_history-written.new.sink in
    let gives = g.O.Opens.gives c.args.stores c.args.store.now in
    let said = c.write_history-written.ensures in
    subst (λ after. IsHistoryStopped g.B.Book gives after c.from.result out) c.number_of.ensures
    (history_stopped g.B.Book c.in_ok-book.book c.write_history-written.new.book out gives c.in_ok-book.ensures.ok said.keeps c.number_of.result
    c.write_history-written.result c.in-Err.fault c.from.result c.in-Err.is c.from.ensures (λ is. said.failed (c.in-Err.is ∙ ap Err is)) said.part)
