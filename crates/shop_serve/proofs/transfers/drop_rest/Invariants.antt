use Rattle.std.proofs.Common.{◌≡◌}
use Rattle.shop_serve.proofs.transfers.drop_rest.Given as goal

abbrev pub invariant-loop : goal.invariant-loop
invariant-loop g l =
    (g.C.Connection.contents l.stream ≡ g.C.Connection.contents l.fn.stream) × (g.C.Connection.has_ended l.fn.stream → g.C.Connection.has_ended l.stream)
