use Rattle.std.proofs.Common.{◌≡◌, ◌-◌, ◌^◌, take}
use Rattle.std.specs.Prelude.{min}
use Rattle.cut_bound.specs.Bounds as bounds
use Rattle.cut_bound.proofs.price.excess_at_hand.Given as goal

abbrev pub invariant-loop-other : goal.invariant-loop-other
invariant-loop-other l = l.sum ≡ min (bounds.excess_at_hand l.by (take l.other-index l.bounded)) (2 ^ 128 - 1)
