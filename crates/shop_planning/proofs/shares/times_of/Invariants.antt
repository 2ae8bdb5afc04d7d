use Rattle.std.proofs.Common.{◌≡◌, ◌*◌, ◌^◌, ◌≤◌, take}
use Rattle.shop_planning.specs.Shares.{times_of}
use Rattle.shop_planning.proofs.shares.times_of.Given as goal

abbrev pub invariant-loop-other : goal.invariant-loop-other
invariant-loop-other l = record { sum : l.times ≡ times_of (take l.other-index l.units) l.unit; few : l.times ≤ l.other-index * 2 ^ 32 }
