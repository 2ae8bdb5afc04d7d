use Rattle.std.proofs.Common.{◌≡◌, ◌≤◌, ◌+◌}
use Rattle.shop_serve.specs.Clients.{unanswered}
use Rattle.shop_serve.proofs.Gathered.{ArrivedSoFar}
use Rattle.shop_serve.proofs.serving.accept_waiting.Given as goal

abbrev pub invariant-loop : goal.invariant-loop
invariant-loop g l =
    record {
      each : ArrivedSoFar g.P.Port (g.P.Port.given l.fn.port) (g.P.Port.given l.port) l.fn.accepted l.accepted l.fn.clients l.clients (g.K.ServerClock.times l.fn.clock) (g.K.ServerClock.times l.clock);
      reported : g.P.Port.all_reported l.port ≡ g.P.Port.all_reported l.fn.port;
      fewer : unanswered l.clients + l.fn.accepted ≤ unanswered l.fn.clients + l.accepted;
      bound : l.accepted ≤ l.limit;
    }
