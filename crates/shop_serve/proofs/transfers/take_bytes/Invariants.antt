use Rattle.std.proofs.Common.{◌≡◌, ◌-◌, length}
use Rattle.shop_request.specs.Reading.{IsReadOn}
use Rattle.shop_serve.specs.Clients.{AwaitsMore}
use Rattle.shop_serve.proofs.transfers.take_bytes.Given as goal

abbrev pub invariant-loop-stream : goal.invariant-loop-stream
invariant-loop-stream g l =
    record {
      read : IsReadOn (g.C.Connection.remaining l.fn.stream) (g.C.Connection.remaining l.stream) l.fn.received.items l.received.items;
      waits : AwaitsMore l.fn.received.items l.fn.needed → AwaitsMore l.received.items l.needed;
      kept : g.C.Connection.contents l.stream ≡ g.C.Connection.contents l.fn.stream;
    }

abbrev pub decreases-loop-stream : goal.decreases-loop-stream
decreases-loop-stream g l = 150000 - length l.received.items
