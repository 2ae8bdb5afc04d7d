use Rattle.std.proofs.Common.{◌≡◌}
use Rattle.shop_machine.specs.Receiving.{unit_parts}
use Rattle.shop_machine.proofs.receiving.received_parts.Given as goal

abbrev pub invariant-loop-node : goal.invariant-loop-node
invariant-loop-node l = l.rows ≡ unit_parts l.material l.batch l.size l.act l.node
