use Rattle.std.proofs.Common.{subst, sym}
use Rattle.shop_serve.specs.Making.{IsMadeMeanwhile, IsNext}
use Rattle.shop_serve.proofs.Dated.{read_timed}
use Rattle.shop_serve.proofs.ServedRequests.{made-alone}
use Rattle.shop_serve.proofs.answers.made_of.Goals as goal

pub returns-in-Made-clause-made : goal.returns-in-Made-clause-made
returns-in-Made-clause-made g c =
    let seen = g.K.ServerClock.times c.args.clock.now in
    let alone = made-alone c.args.site.now g.B.Book c.args.book.now c.answer_of.new.book seen c.args.received.now c.in-Made.made
    (subst (IsNext c.args.site.now g.B.Book c.args.book.now c.answer_of.new.book c.args.received.now) c.in-Made.is c.in_ok-made.ensures.made) in
    subst (λ t. IsMadeMeanwhile c.args.site.now g.B.Book c.args.book.now c.answer_of.new.book seen t c.args.received.now c.in-Made.made) (sym c.note_made.ensures) alone

pub returns-in_err-made-clause-timed : goal.returns-in_err-made-clause-timed
returns-in_err-made-clause-timed g c =
    read_timed c.args.site.now g.B.Book c.args.book.now c.answer_of.new.book (g.K.ServerClock.date c.args.clock.now) c.second-at.result c.args.received.now c.second-at.ensures c.answer_of.ensures.timed

pub returns-in_err-answer-in-Backup-clause-timed : goal.returns-in_err-answer-in-Backup-clause-timed
returns-in_err-answer-in-Backup-clause-timed g c =
    read_timed c.args.site.now g.B.Book c.args.book.now c.answer_of.new.book (g.K.ServerClock.date c.args.clock.now) c.second-at.result c.args.received.now c.second-at.ensures c.answer_of.ensures.timed

pub returns-in-Made-clause-timed : goal.returns-in-Made-clause-timed
returns-in-Made-clause-timed g c =
    read_timed c.args.site.now g.B.Book c.args.book.now c.answer_of.new.book (g.K.ServerClock.date c.args.clock.now) c.second-at.result c.args.received.now c.second-at.ensures c.answer_of.ensures.timed

pub returns-in_ok-answer-in-Backup-clause-timed : goal.returns-in_ok-answer-in-Backup-clause-timed
returns-in_ok-answer-in-Backup-clause-timed g c =
    read_timed c.args.site.now g.B.Book c.args.book.now c.answer_of.new.book (g.K.ServerClock.date c.args.clock.now) c.second-at.result c.args.received.now c.second-at.ensures c.answer_of.ensures.timed
