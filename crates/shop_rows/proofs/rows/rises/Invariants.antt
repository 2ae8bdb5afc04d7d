use Rattle.std.proofs.Common.{◌≡◌, ◌≤◌}
use Rattle.std.specs.declared.cmp.Ordering.TheVariants.{Less}
use Rattle.std.specs.List.{AllAdjacentBelow}
use Rattle.shop_rows.proofs.rows.rises.Given as goal

abbrev pub invariant-loop-i : goal.invariant-loop-i
invariant-loop-i g l = (1 ≤ l.i) × AllAdjacentBelow (λ a b. g.R.Key.RowKey.cmp (g.R.KeyedRow.key_of a) (g.R.KeyedRow.key_of b) ≡ Less) l.rows l.i
