use Rattle.std.proofs.Common.{◌≡◌, take}
use Rattle.shop_planning.proofs.response.listed.Given as goal

abbrev pub invariant-loop-row : goal.invariant-loop-row
invariant-loop-row l = l.list ≡ take l.row-index l.rows
