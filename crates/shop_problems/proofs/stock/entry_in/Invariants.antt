use Rattle.std.proofs.Common.{◌≡◌, drop}
use Rattle.shop_problems.specs.Stock.{entry_in}
use Rattle.shop_problems.proofs.stock.entry_in.Given as goal

abbrev pub invariant-loop-entry : goal.invariant-loop-entry
invariant-loop-entry l = entry_in l.entries l.material ≡ entry_in (drop l.entry-index l.entries) l.material
