use Rattle.std.proofs.Common.{◌≤◌}
use Rattle.shop_serve.specs.Clients.{unanswered}
use Rattle.shop_serve.specs.Serving.{Advances}
use Rattle.shop_serve.proofs.Gathered.{RoundsSoFar}
use Rattle.shop_serve.proofs.serving.serve_port.Given as goal

abbrev pub invariant-loop : goal.invariant-loop
invariant-loop g l =
    record {
      all : RoundsSoFar g.C.Connection l.site g.B.Book g.P.Port (g.P.Port.all_reported l.fn.port) (g.P.Port.all_reported l.port) (g.P.Port.given l.fn.port) (g.P.Port.given l.port)
          l.accepted l.initial.clients l.clients l.fn.book l.book (g.K.ServerClock.times l.fn.clock) (g.K.ServerClock.times l.clock);
      run : Advances l.site g.B.Book l.fn.book l.book l.accepted (unanswered l.clients);
      bound : l.accepted ≤ l.limit;
      clean_disk : g.B.Book.has_clean_disk l.book → g.B.Book.has_clean_disk l.fn.book;
    }
