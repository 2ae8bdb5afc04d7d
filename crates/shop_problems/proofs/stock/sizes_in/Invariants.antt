use Rattle.std.proofs.Common.{◌++◌, List, drop, map}
use Rattle.cut_measure.specs.Measures.{Size}
use Rattle.shop_problems.specs.Stock.{AreSizes, HasBadSize}
use Rattle.shop_problems.proofs.stock.sizes_in.Given as goal

abbrev pub invariant-loop-text : goal.invariant-loop-text
invariant-loop-text l =
    let all = map (λ text. text.now) l.texts in
    let left = map (λ text. text.now) (drop l.text-index l.texts) in
    record {
      read : (more : List Size) → AreSizes l.kind left more → AreSizes l.kind all (l.sizes.items ++ more);
      bad : HasBadSize l.kind left → HasBadSize l.kind all;
    }
