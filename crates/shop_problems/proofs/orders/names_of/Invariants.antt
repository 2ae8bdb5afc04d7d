use Rattle.std.proofs.Common.{◌≡◌, ◌++◌, drop, map}
use Rattle.std.specs.Prelude.{string_bytes}
use Rattle.shop_problems.specs.Stock.{size_text}
use Rattle.shop_problems.proofs.orders.names_of.Given as goal

abbrev pub invariant-loop-size : goal.invariant-loop-size
invariant-loop-size l =
    map string_bytes l.names.items ++ map (size_text l.kind) (drop l.size-index l.sizes) ≡ map (size_text l.kind) l.sizes
