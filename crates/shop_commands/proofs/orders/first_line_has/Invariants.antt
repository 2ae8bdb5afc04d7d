use Rattle.std.proofs.Common.{◌≡◌, drop}
use Rattle.shop_commands.specs.Orders.{first_line_has}
use Rattle.shop_commands.proofs.orders.first_line_has.Given as goal

abbrev pub invariant-loop-byte : goal.invariant-loop-byte
invariant-loop-byte l = first_line_has l.wanted (drop l.byte-index l.text) ≡ first_line_has l.wanted l.text
