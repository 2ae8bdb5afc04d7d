use Rattle.std.proofs.Common.{drop}
use Rattle.slab.specs.Slab.{Slab}
use Rattle.shop_serve.specs.declared.clients.Client.{Client}
use Rattle.shop_serve.specs.Clients.{AreServiced, unanswered}
use Rattle.shop_serve.specs.Serving.{Advances}
use Rattle.shop_serve.specs.Times.{Times}
use Rattle.shop_serve.proofs.serving.service_reported.Given as goal

-- what is still to be done completes what was done
abbrev pub invariant-loop-key : goal.invariant-loop-key
invariant-loop-key g l =
    record {
      each : (clients : Slab (Client _)) (book : _) (seeing : Times) → AreServiced g.C.Connection l.site g.B.Book (drop l.key-index l.keys) l.clients clients l.book book (g.K.ServerClock.times l.clock) seeing
          → AreServiced g.C.Connection l.site g.B.Book l.keys l.fn.clients clients l.fn.book book (g.K.ServerClock.times l.fn.clock) seeing;
      run : Advances l.site g.B.Book l.fn.book l.book (unanswered l.fn.clients) (unanswered l.clients);
      clean_disk : g.B.Book.has_clean_disk l.book → g.B.Book.has_clean_disk l.fn.book;
    }
