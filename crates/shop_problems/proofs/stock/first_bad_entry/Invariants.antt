use Rattle.std.proofs.Common.{◌≡◌, drop}
use Rattle.shop_problems.specs.Stock.{first_bad_entry, first_bad_from}
use Rattle.shop_problems.proofs.stock.first_bad_entry.Given as goal

abbrev pub invariant-loop-i : goal.invariant-loop-i
invariant-loop-i l = first_bad_from l.entries l.i (drop l.i l.entries) ≡ first_bad_entry l.entries
