use Rattle.std.proofs.Common.{◌≡◌, ◌≤◌, ◌+◌, ◌++◌, drop}
use Rattle.shop_problems.specs.Orders.{lines_of, wants_from, wants_in}
use Rattle.shop_problems.proofs.orders.wants_in.Given as goal

abbrev pub invariant-loop-line : goal.invariant-loop-line
invariant-loop-line l =
    record {
      wants : l.wants.items ++ wants_from l.demand (lines_of l.material (drop l.line-index l.lines)) ≡ wants_in l.material l.lines;
      few : l.demand ≤ l.line-index + 1;
    }
