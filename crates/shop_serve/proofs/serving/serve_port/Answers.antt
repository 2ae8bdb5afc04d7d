use Rattle.std.proofs.Common.{◌∙◌, ◌+◌, refl, sym, subst, arith}
use Rattle.std.proofs.lemmas.Bool.{eqb-true}
use Rattle.shop_serve.specs.Clients.{unanswered}
use Rattle.shop_serve.specs.Times.{Adds, Looks}
use Rattle.shop_serve.proofs.Gathered.{rounds-none, rounds-all, rounds-one}
use Rattle.shop_serve.proofs.Slots.{none-open, unanswered-empty}
use Rattle.shop_serve.proofs.ServedRequests.{stays, advances_more, advanced}
use Rattle.shop_serve.proofs.serving.serve_port.Goals as goal

pub loop-init : goal.loop-init
loop-init g c =
    record {
      all = rounds-none g.C.Connection c.args.site.now g.B.Book _ (g.P.Port.all_reported c.args.port.now) (g.P.Port.given c.args.port.now) c.new-clients.result c.args.book.now (g.K.ServerClock.times c.args.clock.now);
      run = stays c.args.site.now g.B.Book c.args.book.now 0 (unanswered c.new-clients.result) (omega (arith, unanswered-empty c.new-clients.result c.new-clients.ensures.empty));
      bound = omega arith;
      clean_disk = λ clean_disk. clean_disk;
    }

pub loop-preserved : goal.loop-preserved
loop-preserved g c =
    let so_far = c.loop.invariant in
    let more = c.serve_round.ensures in
    record {
      all = rounds-one g.C.Connection c.args.site.now g.B.Book _ (g.P.Port.all_reported c.args.port.now) (g.P.Port.all_reported c.loop.port) (g.P.Port.all_reported c.serve_round.new.port) (g.P.Port.given c.args.port.now) (g.P.Port.given c.loop.port) (g.P.Port.given c.serve_round.new.port)
          c.loop.accepted c.serve_round.new.accepted c.new-clients.result c.loop.clients c.serve_round.new.clients c.args.book.now c.loop.book c.serve_round.new.book
          (g.K.ServerClock.times c.args.clock.now) (g.K.ServerClock.times c.loop.clock) (g.K.ServerClock.times c.is_in_place.new.self) (g.K.ServerClock.times c.serve_round.new.clock) more.round.3.0 (g.P.Port.reported c.wait.new.self) more.round.0
          (subst (λ t. Adds (g.P.Port.all_reported c.loop.port) t (g.P.Port.reported c.wait.new.self)) (sym more.reported) c.in-Ok.ensures.reported)
          (subst (λ t. Adds t (g.P.Port.given c.serve_round.new.port) more.round.0) c.wait.ensures.given more.round.2)
          more.round.1 (subst (Looks (g.K.ServerClock.times c.loop.clock) (g.K.ServerClock.times c.is_in_place.new.self)) c.if-not-is_in_place.false c.is_in_place.ensures) more.round.3.1 so_far.all;
      run = advances_more c.args.site.now g.B.Book c.args.book.now c.loop.book c.serve_round.new.book c.loop.accepted (unanswered c.loop.clients)
          (unanswered c.loop.clients + c.serve_round.new.accepted) (unanswered c.serve_round.new.clients + c.loop.accepted) c.serve_round.new.accepted (unanswered c.serve_round.new.clients) (omega arith) more.clean_disk so_far.run more.run;
      bound = more.bound;
      clean_disk = λ clean_disk. so_far.clean_disk (more.clean_disk clean_disk);
    }

pub returns-then-is_empty-clause-all : goal.returns-then-is_empty-clause-all
returns-then-is_empty-clause-all g c =
    let so_far = c.loop.invariant in
    record {
      rounds = so_far.all.0;
      first = c.new-clients.result;
      last = c.loop.clients;
      run = rounds-all g.C.Connection c.args.site.now g.B.Book _ (g.P.Port.all_reported c.args.port.now) (g.P.Port.all_reported c.loop.port) (g.P.Port.given c.args.port.now) (g.P.Port.given c.loop.port) c.loop.accepted c.new-clients.result c.loop.clients c.args.book.now c.loop.book (g.K.ServerClock.times c.args.clock.now) (g.K.ServerClock.times c.loop.clock) so_far.all;
      none = λ key. rw c.new-clients.ensures.empty refl;
      closed = λ key. none-open c.loop.clients.slots (eqb-true _ _ (sym c.is_empty.ensures ∙ c.if-is_empty.true)) key;
      count = sym so_far.all.1 ∙ omega (arith, so_far.bound, c.if-accepted-limit.true);
      reported = so_far.all.2;
      arrived = so_far.all.3;
    }

pub returns-then-is_empty-clause-served : goal.returns-then-is_empty-clause-served
returns-then-is_empty-clause-served g c =
    advanced c.args.site.now g.B.Book c.args.book.now c.loop.book c.loop.accepted (unanswered c.loop.clients) c.args.limit c.loop.invariant.bound c.loop.invariant.run

pub returns-in-Err-clause-served : goal.returns-in-Err-clause-served
returns-in-Err-clause-served g c =
    advanced c.args.site.now g.B.Book c.args.book.now c.loop.book c.loop.accepted (unanswered c.loop.clients) c.args.limit c.loop.invariant.bound c.loop.invariant.run

pub returns-clause-served : goal.returns-clause-served
returns-clause-served g c =
    advanced c.args.site.now g.B.Book c.args.book.now c.loop.book c.loop.accepted (unanswered c.loop.clients) c.args.limit c.loop.invariant.bound c.loop.invariant.run

pub returns-in-None-clause-served : goal.returns-in-None-clause-served
returns-in-None-clause-served g c =
    let so_far = c.loop.invariant in
    let more = c.serve_round.ensures in
    advanced c.args.site.now g.B.Book c.args.book.now c.serve_round.new.book c.serve_round.new.accepted (unanswered c.serve_round.new.clients) c.args.limit more.bound
    (advances_more c.args.site.now g.B.Book c.args.book.now c.loop.book c.serve_round.new.book c.loop.accepted (unanswered c.loop.clients)
    (unanswered c.loop.clients + c.serve_round.new.accepted) (unanswered c.serve_round.new.clients + c.loop.accepted) c.serve_round.new.accepted (unanswered c.serve_round.new.clients) (omega arith) more.clean_disk so_far.run more.run)

pub returns-in-None-clause-clean_disk : goal.returns-in-None-clause-clean_disk
returns-in-None-clause-clean_disk g c clean_disk = c.loop.invariant.clean_disk (c.serve_round.ensures.clean_disk clean_disk)

pub returns-then-not-is_in_place-clause-served : goal.returns-then-not-is_in_place-clause-served
returns-then-not-is_in_place-clause-served g c =
    advanced c.args.site.now g.B.Book c.args.book.now c.loop.book c.loop.accepted (unanswered c.loop.clients) c.args.limit c.loop.invariant.bound c.loop.invariant.run
