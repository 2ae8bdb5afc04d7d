use Rattle.shop_commands.specs.Sinks.{change_of}
use Rattle.shop_commands.proofs.Audited.{judged_whole, unjudged}
use Rattle.shop_commands.proofs.audits.judge.Goals as goal

pub returns-in-Whole-clause-ok : goal.returns-in-Whole-clause-ok
returns-in-Whole-clause-ok g c =
    judged_whole g.B.Book c.args.book.now c.audit.new.book (change_of g.W.Sink c.args.sink.now c.report_whole.new.sink) c.in_ok-audit.audit c.in_ok-audit.ensures.ok c.in-Whole.is
    c.report_whole.result c.report_whole.ensures.ok

pub returns-in-KeptBefore-clause-ok : goal.returns-in-KeptBefore-clause-ok
returns-in-KeptBefore-clause-ok g c = unjudged g.B.Book c.args.book.now c.audit.new.book (change_of g.W.Sink c.args.sink.now c.report_torn.new.sink) c.report_torn.result c.report_torn.ensures.never

pub returns-in-Reply-clause-ok : goal.returns-in-Reply-clause-ok
returns-in-Reply-clause-ok g c = unjudged g.B.Book c.args.book.now c.audit.new.book (change_of g.W.Sink c.args.sink.now c.report_torn-in-Reply.new.sink) c.report_torn-in-Reply.result c.report_torn-in-Reply.ensures.never

pub returns-clause-ok : goal.returns-clause-ok
returns-clause-ok g c = unjudged g.B.Book c.args.book.now c.report_row.new.book (change_of g.W.Sink c.args.sink.now c.report_row.new.sink) c.report_row.result c.report_row.ensures.never
