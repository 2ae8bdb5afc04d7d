use Rattle.std.proofs.Common.{◌∙◌, ◌∷◌, [], refl, subst, sym, arith}
use Rattle.std.specs.Prelude.{Ok}
use Rattle.shop_serve.specs.declared.faults.ServeFault.{ServeFault}
use Rattle.shop_serve.specs.Ports.{given_by}
use Rattle.shop_serve.specs.Times.{Adds}
use Rattle.shop_serve.proofs.Gathered.{adds-none, arrived-none, arrived-all, arrived-one}
use Rattle.shop_serve.proofs.serving.accept_waiting.Goals as goal

pub returns-then-accepted-limit-clause-each : goal.returns-then-accepted-limit-clause-each
returns-then-accepted-limit-clause-each g c =
    arrived-all _ (g.P.Port.given c.args.port.now) (g.P.Port.given c.loop.port) (g.P.Port.given c.loop.port) c.args.accepted.now c.loop.accepted c.args.clients.now c.loop.clients (g.K.ServerClock.times c.args.clock.now) (g.K.ServerClock.times c.loop.clock)
    (adds-none (g.P.Port.given c.loop.port)) c.loop.invariant.each

pub returns-then-not-can_open_one-clause-each : goal.returns-then-not-can_open_one-clause-each
returns-then-not-can_open_one-clause-each g c =
    arrived-all _ (g.P.Port.given c.args.port.now) (g.P.Port.given c.loop.port) (g.P.Port.given c.loop.port) c.args.accepted.now c.loop.accepted c.args.clients.now c.loop.clients (g.K.ServerClock.times c.args.clock.now) (g.K.ServerClock.times c.loop.clock)
    (adds-none (g.P.Port.given c.loop.port)) c.loop.invariant.each

pub returns-clause-each : goal.returns-clause-each
returns-clause-each g c =
    arrived-all _ (g.P.Port.given c.args.port.now) (g.P.Port.given c.loop.port) (g.P.Port.given c.loop.port) c.args.accepted.now c.loop.accepted c.args.clients.now c.loop.clients (g.K.ServerClock.times c.args.clock.now) (g.K.ServerClock.times c.loop.clock)
    (adds-none (g.P.Port.given c.loop.port)) c.loop.invariant.each

pub returns-in-Ok-None-clause-each : goal.returns-in-Ok-None-clause-each
returns-in-Ok-None-clause-each g c =
    arrived-all _ (g.P.Port.given c.args.port.now) (g.P.Port.given c.loop.port) (g.P.Port.given c.accept.new.self) c.args.accepted.now c.loop.accepted c.args.clients.now c.loop.clients (g.K.ServerClock.times c.args.clock.now) (g.K.ServerClock.times c.loop.clock)
    (subst (λ o. Adds (g.P.Port.given c.loop.port) (g.P.Port.given c.accept.new.self) (given_by {E = ServeFault} (Ok o))) c.in-Ok-None.field-0-is c.in-Ok-None.ensures.given) c.loop.invariant.each

pub returns-in-Err-clause-each : goal.returns-in-Err-clause-each
returns-in-Err-clause-each g c =
    arrived-all _ (g.P.Port.given c.args.port.now) (g.P.Port.given c.loop.port) (g.P.Port.given c.accept.new.self) c.args.accepted.now c.loop.accepted c.args.clients.now c.loop.clients (g.K.ServerClock.times c.args.clock.now) (g.K.ServerClock.times c.loop.clock)
    (c.in-Err.ensures.given) c.loop.invariant.each

pub loop-init : goal.loop-init
loop-init g c =
    record {
      each = arrived-none _ (g.P.Port.given c.args.port.now) c.args.accepted.now c.args.clients.now (g.K.ServerClock.times c.args.clock.now);
      reported = refl;
      fewer = omega arith;
      bound = c.requires.bound;
    }

pub loop-preserved : goal.loop-preserved
loop-preserved g c =
    let so_far = c.loop.invariant in
    let more = c.receive.ensures in
    let given = subst (λ o. Adds (g.P.Port.given c.loop.port) (g.P.Port.given c.accept.new.self) (given_by {E = ServeFault} (Ok o))) c.in-Ok-Some.field-0-is c.in-Ok-Some.ensures.given in
    record {
      each = arrived-one _ (g.P.Port.given c.args.port.now) (g.P.Port.given c.loop.port) (g.P.Port.given c.receive.new.port)
          c.args.accepted.now c.loop.accepted c.args.clients.now c.loop.clients c.receive.new.clients (g.K.ServerClock.times c.args.clock.now) (g.K.ServerClock.times c.loop.clock) (g.K.ServerClock.times c.receive.new.clock) c.in-Ok-Some.stream
          (subst (λ o. Adds (g.P.Port.given c.loop.port) o (c.in-Ok-Some.stream ∷ [])) (sym more.given) given) more.received so_far.each;
      reported = more.reported ∙ c.accept.ensures.reported ∙ so_far.reported;
      fewer = omega (arith, so_far.fewer, more.fewer);
      bound = omega (arith, c.if-accepted-limit.false);
    }
