use Rattle.std.proofs.Common.{◌≡◌, map, take}
use Rattle.shop_planning.specs.declared.instance.StockPart.{StockPart}
use Rattle.shop_planning.proofs.response.names_of.Given as goal

abbrev pub invariant-loop-part : goal.invariant-loop-part
invariant-loop-part l = l.names ≡ map (λ (p : StockPart). p.name) (take l.part-index l.parts)
