use Rattle.std.proofs.Common.{ap, sym, subst}
use Rattle.shop_request.specs.Requests.{parse_of}
use Rattle.shop_wire.specs.Serves.{HandlesInputAt}
use Rattle.shop_wire.proofs.Written.{silent_reported, fault_ok, fault_err}
use Rattle.shop_wire.proofs.serving.answer_inbound.Goals as goal

pub returns-in-Silence-clause-ok : goal.returns-in-Silence-clause-ok
returns-in-Silence-clause-ok g c =
    silent_reported g.B.Book c.args.book.now (g.W.Sink.held c.args.sink.now) (g.W.Sink.held c.args.sink.now) (parse_of c.args.inbound.now) (ap parse_of c.in-Silence.is)

pub returns-in-Faulty-clause-ok : goal.returns-in-Faulty-clause-ok
returns-in-Faulty-clause-ok g c =
    fault_ok g.B.Book c.args.book.now (g.W.Sink.held c.args.sink.now) (g.W.Sink.held c.answer_fault.new.sink) c.in-Faulty.fault (parse_of c.args.inbound.now) (ap parse_of c.in-Faulty.is)
    c.answer_fault.result c.answer_fault.ensures.ok

pub returns-in-Faulty-clause-err : goal.returns-in-Faulty-clause-err
returns-in-Faulty-clause-err g c =
    fault_err g.B.Book c.args.book.now (g.W.Sink.held c.args.sink.now) (g.W.Sink.held c.answer_fault.new.sink) c.in-Faulty.fault (parse_of c.args.inbound.now) (ap parse_of c.in-Faulty.is)
    c.answer_fault.result c.answer_fault.ensures.err

pub returns-in-Silence-clause-timed : goal.returns-in-Silence-clause-timed
returns-in-Silence-clause-timed g c = subst (HandlesInputAt g.B.Book c.args.book.now c.args.book.now c.args.at) (sym (ap parse_of c.in-Silence.is)) (λ clean_disk m held well_formed. tt)

pub returns-in-Faulty-clause-timed : goal.returns-in-Faulty-clause-timed
returns-in-Faulty-clause-timed g c = subst (HandlesInputAt g.B.Book c.args.book.now c.args.book.now c.args.at) (sym (ap parse_of c.in-Faulty.is)) (λ clean_disk m held well_formed. tt)
