use Rattle.std.proofs.Common.{◌≡◌, ◌*◌, ◌≤◌, ◌^◌, take}
use Rattle.cut_order.specs.Stocks as stocks
use Rattle.cut_order.proofs.instance.parts_of.Given as goal

abbrev pub invariant-loop-stock : goal.invariant-loop-stock
invariant-loop-stock l = record { sum : l.parts ≡ stocks.parts_of (take l.stock-index l.sizes); few : l.parts ≤ l.stock-index * 2 ^ 32 }
