use Rattle.std.proofs.Common.{◌≡◌, ◌*◌, ◌^◌, ◌≤◌, take}
use Rattle.std.specs.Prelude.{sum}
use Rattle.shop_problems.proofs.wholes.missing_of.Given as goal

abbrev pub invariant-loop-number : goal.invariant-loop-number
invariant-loop-number l =
    record { sum : l.missing ≡ sum (take l.number-index l.plan.missing.items); few : l.missing ≤ l.number-index * 2 ^ 32 }
