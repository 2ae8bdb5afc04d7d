use Rattle.std.proofs.Common.{◌≡◌, take}
use Rattle.shop_backup.specs.Steps.{greatest}
use Rattle.shop_backup.proofs.backing.greatest_of.Given as goal

abbrev pub invariant-loop-number : goal.invariant-loop-number
invariant-loop-number l = l.greatest ≡ greatest (take l.number-index l.numbers)
