use Rattle.std.proofs.Common.{◌≡◌, take}
use Rattle.shop_planning.specs.Rests.{most_kept}
use Rattle.shop_planning.proofs.rests.most_kept.Given as goal

abbrev pub invariant-loop-row : goal.invariant-loop-row
invariant-loop-row l = l.most ≡ most_kept l.limits (take l.row-index l.rows)
