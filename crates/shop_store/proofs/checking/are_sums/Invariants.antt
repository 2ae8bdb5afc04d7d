use Rattle.std.proofs.Common.{take}
use Rattle.shop_store.specs.Checking.{AreSumsIn}
use Rattle.shop_store.proofs.checking.are_sums.Given as goal

abbrev pub invariant-loop-row : goal.invariant-loop-row
invariant-loop-row l = AreSumsIn l.sums (take l.row-index l.totals)
