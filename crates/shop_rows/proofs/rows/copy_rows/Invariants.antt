use Rattle.std.proofs.Common.{◌≡◌, take}
use Rattle.shop_rows.proofs.rows.copy_rows.Given as goal

abbrev pub invariant-loop-row : goal.invariant-loop-row
invariant-loop-row g l = l.list ≡ take l.row-index l.rows
