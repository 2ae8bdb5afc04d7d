use Rattle.std.proofs.Common.{None, inl, refl, subst, arith}
use Rattle.shop_serve.proofs.Slots.{closed-so, evicts-said, opened-so, unanswered-inserted, registered-at, registered-some}
use Rattle.shop_serve.proofs.clients.open_client.Goals as goal

pub returns-clause-opened : goal.returns-clause-opened
returns-clause-opened g c =
    let registered = subst (λ stream. g.P.Port.is_registered c.register.new.self stream c.vacant_key.result) c.register.ensures.same (c.register.ensures.registered c.if-not-register.false) in
    opened-so g.P.Port c.args.port.now c.args.now c.args.stream c.args.clients.now c.evict_oldest.new.clients c.insert.new.self _ c.insert.result c.ok.result c.ok.ensures.value
    (registered-at c.insert.result c.vacant_key.result c.evict_oldest.new.clients.vacant_key (λ k. (p : _) × g.P.Port.is_registered p c.args.stream k) c.vacant_key.ensures.value (c.register.new.self, registered) c.insert.ensures.key)
    c.insert.ensures.was_vacant c.insert.ensures.updates
    (evicts-said _ _ _ _ c.is_scarce.ensures c.evict_oldest.ensures.cleared) (record { own = c.register.ensures.same; since = refl; received = c.new.ensures.items; needed = refl; asks = refl; waits = refl })

pub returns-clause-registered : goal.returns-clause-registered
returns-clause-registered g c =
    let registered = subst (λ stream. g.P.Port.is_registered c.register.new.self stream c.vacant_key.result) c.register.ensures.same (c.register.ensures.registered c.if-not-register.false) in
    registered-some c.insert.result c.ok.result (λ k. g.P.Port.is_registered c.register.new.self c.args.stream k) c.ok.ensures.value
    (registered-at c.insert.result c.vacant_key.result c.evict_oldest.new.clients.vacant_key (λ k. g.P.Port.is_registered c.register.new.self c.args.stream k) c.vacant_key.ensures.value registered c.insert.ensures.key)

pub returns-clause-closed : goal.returns-clause-closed
returns-clause-closed g c =
    closed-so g.P.Port c.args.port.now c.args.now c.args.stream c.args.clients.now c.evict_oldest.new.clients c.insert.new.self (record {
      stream = c.register.new.stream;
      since = c.args.now;
      received = c.new.result;
      needed = 0;
      task = None;
      answer = None;
      sent = 0;
    }) c.insert.result c.ok.result c.ok.ensures.value c.insert.ensures.err c.insert.ensures.succeeds (evicts-said _ _ _ _ c.is_scarce.ensures c.evict_oldest.ensures.cleared)

pub returns-clause-fewer : goal.returns-clause-fewer
returns-clause-fewer g c =
    omega (arith, c.evict_oldest.ensures.fewer, unanswered-inserted c.evict_oldest.new.clients c.insert.new.self _ c.insert.result c.insert.ensures.updates c.insert.ensures.err)

pub returns-then-not-register-clause-closed : goal.returns-then-not-register-clause-closed
returns-then-not-register-clause-closed g c none =
    record {
      cleared = c.evict_oldest.new.clients;
      made = evicts-said _ _ _ _ c.is_scarce.ensures c.evict_oldest.ensures.cleared;
      same = refl;
      why = inl (c.register.new.self, c.register.ensures.deaf c.if-not-register.true);
    }
