use Rattle.std.proofs.Common.{◌≡◌, ◌<◌, ◌≤◌, ◌-◌, ◌+◌, length}
use Rattle.std.specs.Io.KnownBytes.{Consumes}
use Rattle.shop_request.proofs.requests.gather.Given as goal

abbrev pub invariant-loop-goes_on : goal.invariant-loop-goes_on
invariant-loop-goes_on g l =
    record {
      took : Consumes (g.S.Source.left l.fn.source) (g.S.Source.left l.source) l.received.items;
      short : length l.received.items < l.needed;
      most : l.needed ≤ 139264;
      failed : g.S.Source.failed l.source ≡ g.S.Source.failed l.fn.source;
      reads : g.S.Source.reads l.source ≤ g.S.Source.reads l.fn.source + length l.received.items;
    }

abbrev pub decreases-loop-goes_on : goal.decreases-loop-goes_on
decreases-loop-goes_on g l = 139264 - length l.received.items
