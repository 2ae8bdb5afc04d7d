use Rattle.std.proofs.Common.{inl, inr}
use Rattle.shop_serve.proofs.Servicing.{serviced-ended, spent}
use Rattle.shop_serve.proofs.clients.service_once.Goals as goal

pub returns-in-Whole-clause-serviced : goal.returns-in-Whole-clause-serviced
returns-in-Whole-clause-serviced g c stays =
    serviced-ended g.C.Connection c.args.site.now g.B.Book c.args.client.now c.service.new.client c.finish.new.client c.args.book.now c.service.new.book (g.K.ServerClock.times c.args.clock.now) (g.K.ServerClock.times c.service.new.clock)
    c.finish.ensures.kept c.finish.ensures.since c.finish.ensures.task c.finish.ensures.contents c.finish.ensures.ended (c.service.ensures.whole c.in-Whole.is) (c.service.ensures.serviced (λ lost. absurd (cc (lost, c.in-Whole.is))) (λ none. absurd (cc (none, c.in-Whole.is))))

pub returns-in-Whole-clause-over : goal.returns-in-Whole-clause-over
returns-in-Whole-clause-over g c over =
    let whole = c.service.ensures.whole c.in-Whole.is in
    let serviced = c.service.ensures.serviced (λ lost. absurd (cc (lost, c.in-Whole.is))) (λ none. absurd (cc (none, c.in-Whole.is))) in
    inr (
      c.finish.new.client,
      inl (
        serviced-ended g.C.Connection c.args.site.now g.B.Book c.args.client.now c.service.new.client c.finish.new.client c.args.book.now c.service.new.book (g.K.ServerClock.times c.args.clock.now) (g.K.ServerClock.times c.service.new.clock)
            c.finish.ensures.kept c.finish.ensures.since c.finish.ensures.task c.finish.ensures.contents c.finish.ensures.ended whole serviced,
        spent g.C.Connection c.args.site.now g.B.Book c.service.new.client c.finish.new.client c.finish.ensures.kept whole,
        c.finish.ensures.over over,
      ),
    )

pub returns-in-Lost-clause-over : goal.returns-in-Lost-clause-over
returns-in-Lost-clause-over g c over = inr (c.service.new.client, inr (c.service.ensures.lost c.in-Lost.is))
