use Rattle.std.proofs.Common.{◌≤◌}
use Rattle.shop_tables.proofs.invalid.has_counts.Given as goal

abbrev pub invariant-loop-at : goal.invariant-loop-at
invariant-loop-at l = l.from ≤ l.at
