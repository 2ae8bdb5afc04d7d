use Rattle.std.proofs.Common.{◌≡◌, ◌+◌, take}
use Rattle.shop_machine.specs.Ordering.{new_demands, lines_in}
use Rattle.shop_machine.proofs.ordering.new_demands.Given as goal

abbrev pub invariant-loop-found : goal.invariant-loop-found
invariant-loop-found l = (l.number ≡ l.first + l.found-index) × (l.rows ≡ new_demands l.order l.first (lines_in (take l.found-index l.lines)))
