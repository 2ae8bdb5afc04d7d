use Rattle.std.proofs.Common.{All, take}
use Rattle.shop_opening.specs.Shops.{IsAccepted}
use Rattle.shop_opening.proofs.shops.first_refused.Given as goal

abbrev pub invariant-loop-i : goal.invariant-loop-i
invariant-loop-i l = All IsAccepted (take l.i l.replies)
