use Rattle.std.proofs.Common.{sym}
use Rattle.shop_serve.proofs.PlanTasks.{asks-of, given-up, given-up-fewer, goes-on, goes-on-fewer, task-out, task-out-fewer}
use Rattle.shop_serve.proofs.searching.step_search_at.Goals as goal

pub returns-in-GoesOn-clause-at : goal.returns-in-GoesOn-clause-at
returns-in-GoesOn-clause-at g c =
    let done = c.step_search_once.ensures.goes_on c.in-GoesOn.is in
    goes-on g.C.Connection c.args.is_crowded c.args.now c.args.key c.args.clients.now c.in-Some.client.now c.step_search_once.new.client (g.K.ServerClock.times c.args.clock.now) (g.K.ServerClock.times c.step_search_once.new.clock) (sym c.in-Some.ensures.value) (asks-of c.args.clients.now c.args.key c.in-Some.client.now c.requires (sym c.in-Some.ensures.value))
    done.0 done.1

pub returns-in-GoesOn-clause-fewer : goal.returns-in-GoesOn-clause-fewer
returns-in-GoesOn-clause-fewer g c =
    goes-on-fewer g.C.Connection c.args.is_crowded c.args.now c.args.key c.args.clients.now c.in-Some.client.now c.step_search_once.new.client (g.K.ServerClock.times c.args.clock.now) (g.K.ServerClock.times c.step_search_once.new.clock) (sym c.in-Some.ensures.value) (asks-of c.args.clients.now c.args.key c.in-Some.client.now c.requires (sym c.in-Some.ensures.value))
    (c.step_search_once.ensures.goes_on c.in-GoesOn.is).0

pub returns-in-Answered-clause-at : goal.returns-in-Answered-clause-at
returns-in-Answered-clause-at g c =
    task-out g.C.Connection c.args.is_crowded c.args.now c.args.key c.args.clients.now c.in-Some.client.now c.step_search_once.new.client (g.K.ServerClock.times c.args.clock.now) (g.K.ServerClock.times c.step_search_once.new.clock) (sym c.in-Some.ensures.value) (asks-of c.args.clients.now c.args.key c.in-Some.client.now c.requires (sym c.in-Some.ensures.value))
    (c.step_search_once.ensures.answered c.in-Answered.is)

pub returns-in-Answered-clause-fewer : goal.returns-in-Answered-clause-fewer
returns-in-Answered-clause-fewer g c =
    task-out-fewer g.C.Connection c.args.is_crowded c.args.now c.args.key c.args.clients.now c.in-Some.client.now c.step_search_once.new.client (g.K.ServerClock.times c.args.clock.now) (g.K.ServerClock.times c.step_search_once.new.clock) (sym c.in-Some.ensures.value) (asks-of c.args.clients.now c.args.key c.in-Some.client.now c.requires (sym c.in-Some.ensures.value))
    (c.step_search_once.ensures.answered c.in-Answered.is)

pub returns-in-NoMemory-clause-at : goal.returns-in-NoMemory-clause-at
returns-in-NoMemory-clause-at g c =
    given-up g.C.Connection c.args.is_crowded c.args.now c.args.key c.args.clients.now c.in-Some.client.now c.step_search_once.new.client (g.K.ServerClock.times c.args.clock.now) (g.K.ServerClock.times c.step_search_once.new.clock) (sym c.in-Some.ensures.value) (asks-of c.args.clients.now c.args.key c.in-Some.client.now c.requires (sym c.in-Some.ensures.value))
    c.try_remove.new.self c.try_remove.ensures.updates (c.step_search_once.ensures.closed c.in-NoMemory.is)

pub returns-in-NoMemory-clause-fewer : goal.returns-in-NoMemory-clause-fewer
returns-in-NoMemory-clause-fewer g c =
    given-up-fewer g.C.Connection c.args.is_crowded c.args.now c.args.key c.args.clients.now c.in-Some.client.now c.step_search_once.new.client (g.K.ServerClock.times c.args.clock.now) (g.K.ServerClock.times c.step_search_once.new.clock) (sym c.in-Some.ensures.value) (asks-of c.args.clients.now c.args.key c.in-Some.client.now c.requires (sym c.in-Some.ensures.value))
    c.try_remove.new.self c.try_remove.ensures.updates
