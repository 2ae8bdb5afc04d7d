use Rattle.std.proofs.Common.{◌+◌, subst, arith}
use Rattle.shop_serve.specs.Clients.{AreServiced, unanswered}
use Rattle.shop_serve.proofs.ServedRequests.{advances_more, advances_within}
use Rattle.shop_serve.proofs.serving.serve_round.Goals as goal

pub returns-clause-round : goal.returns-clause-round
returns-clause-round g c =
    let arrived = c.accept_waiting-wait.ensures.each in (
      arrived.0,
      arrived.1,
      arrived.2,
      (
        c.now-moment.result,
        record {
          serviced = c.service_reported.new.clients;
          mid = c.service_reported.new.book;
          first = g.K.ServerClock.times c.service_reported.new.clock;
          each = subst (λ keys. AreServiced g.C.Connection c.args.site.now g.B.Book keys c.args.clients.now c.service_reported.new.clients c.args.book.now c.service_reported.new.book (g.K.ServerClock.times c.args.clock.now) (g.K.ServerClock.times c.service_reported.new.clock)) c.keys.ensures c.service_reported.ensures.each;
          kept = c.close_late.new.clients;
          second = g.K.ServerClock.times c.now-moment.new.self;
          read = c.now-moment.ensures;
          late = c.close_late.ensures.late;
          task = c.step_search.new.clients;
          third = g.K.ServerClock.times c.step_search.new.clock;
          steps_search = c.step_search.ensures.steps_search;
          received = arrived.3;
        },
      ),
    )

pub returns-clause-run : goal.returns-clause-run
returns-clause-run g c =
    advances_within c.args.site.now g.B.Book c.args.book.now c.step_search.new.book (unanswered c.args.clients.now) (unanswered c.step_search.new.clients)
    (unanswered c.args.clients.now + c.accept_waiting-wait.new.accepted) (unanswered c.accept_waiting-wait.new.clients + c.args.accepted.now)
    (omega (arith, c.accept_waiting-wait.ensures.fewer))
    (advances_more c.args.site.now g.B.Book c.args.book.now c.service_reported.new.book c.step_search.new.book (unanswered c.args.clients.now) (unanswered c.service_reported.new.clients)
    (unanswered c.close_late.new.clients) (unanswered c.step_search.new.clients) (unanswered c.args.clients.now) (unanswered c.step_search.new.clients)
    (omega (arith, c.close_late.ensures.fewer)) c.step_search.ensures.clean_disk c.service_reported.ensures.run c.step_search.ensures.run)
