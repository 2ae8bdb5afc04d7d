use Rattle.std.proofs.Common.{◌≡◌, take}
use Rattle.shop_book.specs.Stories.{numbers_of}
use Rattle.shop_book.proofs.stories.numbers_of.Given as goal

abbrev pub invariant-loop-demand : goal.invariant-loop-demand
invariant-loop-demand l = l.numbers ≡ numbers_of l.order (take l.demand-index l.demands)
