use Rattle.std.proofs.Common.{◌≡◌, ◌*◌, ◌≤◌, ◌^◌, take}
use Rattle.cut_bound.specs.Solutions as cuttings
use Rattle.cut_order.proofs.answer.cost_at_hand.Given as goal

abbrev pub invariant-loop-stock : goal.invariant-loop-stock
invariant-loop-stock l = record { sum : l.cost ≡ cuttings.cost_at_hand (take l.stock-index l.sizes); few : l.cost ≤ l.stock-index * 2 ^ 96 }
