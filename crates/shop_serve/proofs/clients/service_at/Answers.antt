use Rattle.std.proofs.Common.{◌≡◌, None, inl, refl, sym, rules, arith}
use Rattle.slab.specs.Slab.{get}
use Rattle.shop_serve.specs.Clients.{unanswered}
use Rattle.shop_serve.specs.declared.clients.ConnectionStatus.TheVariants as status
use Rattle.shop_serve.proofs.ServedRequests.{none_served, stays}
use Rattle.shop_serve.proofs.Servicing.{advances-stays, advances-closed, serviced-closed, serviced-stays}
use Rattle.shop_serve.proofs.clients.service_at.Goals as goal

pub returns-in-Over-clause-run : goal.returns-in-Over-clause-run
returns-in-Over-clause-run g c =
    advances-closed g.C.Connection c.args.site.now g.B.Book c.args.book.now c.service_once.new.book (g.K.ServerClock.times c.args.clock.now) (g.K.ServerClock.times c.service_once.new.clock) c.args.clients.now c.try_remove.new.self c.args.key c.in-Some.client.now c.service_once.new.client
    (sym c.in-Some.ensures.value) c.service_once.ensures.once c.service_once.ensures.one c.try_remove.ensures.updates

pub returns-in-NoMemory-clause-run : goal.returns-in-NoMemory-clause-run
returns-in-NoMemory-clause-run g c =
    advances-closed g.C.Connection c.args.site.now g.B.Book c.args.book.now c.service_once.new.book (g.K.ServerClock.times c.args.clock.now) (g.K.ServerClock.times c.service_once.new.clock) c.args.clients.now c.try_remove-in-NoMemory.new.self c.args.key c.in-Some.client.now c.service_once.new.client
    (sym c.in-Some.ensures.value) c.service_once.ensures.once c.service_once.ensures.one c.try_remove-in-NoMemory.ensures.updates

pub returns-in-Stays-clause-run : goal.returns-in-Stays-clause-run
returns-in-Stays-clause-run g c =
    advances-stays g.C.Connection c.args.site.now g.B.Book c.args.book.now c.service_once.new.book (g.K.ServerClock.times c.args.clock.now) (g.K.ServerClock.times c.service_once.new.clock) c.args.clients.now c.args.key c.in-Some.client.now c.service_once.new.client
    (sym c.in-Some.ensures.value) c.service_once.ensures.once (c.service_once.ensures.serviced c.in-Stays.is) c.service_once.ensures.one

pub returns-in_default-clause-at : goal.returns-in_default-clause-at
returns-in_default-clause-at g c =
    let absent : get c.args.clients.now c.args.key ≡ None = search rules in
    record {
      others = λ other differs. refl;
      absent = λ none. (none, refl);
      there = λ client is. absurd (cc (absent, is));
      closed = λ client is. absurd (cc (absent, is));
      once = λ client is some. refl;
      one = none_served c.args.site.now g.B.Book c.args.book.now 1;
      clean_disk = λ clean_disk. clean_disk;
    }

pub returns-in_default-clause-run : goal.returns-in_default-clause-run
returns-in_default-clause-run g c = stays c.args.site.now g.B.Book c.args.book.now (unanswered c.args.clients.now) (unanswered c.args.clients.now) (omega arith)

pub returns-in-Over-clause-at : goal.returns-in-Over-clause-at
returns-in-Over-clause-at g c =
    serviced-closed g.C.Connection c.args.site.now g.B.Book status.Over c.args.key c.args.clients.now c.try_remove.new.self c.in-Some.client.now c.service_once.new.client c.args.book.now c.service_once.new.book (g.K.ServerClock.times c.args.clock.now) (g.K.ServerClock.times c.service_once.new.clock)
    (sym c.in-Some.ensures.value) c.try_remove.ensures.updates c.service_once.ensures.once c.service_once.ensures.one c.service_once.ensures.clean_disk (c.service_once.ensures.over c.in-Over.is)

pub returns-in-NoMemory-clause-at : goal.returns-in-NoMemory-clause-at
returns-in-NoMemory-clause-at g c =
    serviced-closed g.C.Connection c.args.site.now g.B.Book status.NoMemory c.args.key c.args.clients.now c.try_remove-in-NoMemory.new.self c.in-Some.client.now c.service_once.new.client c.args.book.now c.service_once.new.book (g.K.ServerClock.times c.args.clock.now) (g.K.ServerClock.times c.service_once.new.clock)
    (sym c.in-Some.ensures.value) c.try_remove-in-NoMemory.ensures.updates c.service_once.ensures.once c.service_once.ensures.one c.service_once.ensures.clean_disk (inl refl)

pub returns-in-Stays-clause-at : goal.returns-in-Stays-clause-at
returns-in-Stays-clause-at g c =
    serviced-stays g.C.Connection c.args.site.now g.B.Book status.Stays c.args.key c.args.clients.now c.in-Some.client.now c.service_once.new.client c.args.book.now c.service_once.new.book (g.K.ServerClock.times c.args.clock.now) (g.K.ServerClock.times c.service_once.new.clock)
    (sym c.in-Some.ensures.value) c.service_once.ensures.once c.service_once.ensures.one c.service_once.ensures.clean_disk (c.service_once.ensures.serviced c.in-Stays.is)
