use Rattle.cut_bound.proofs.GreatestCosts.{IsLeastSoFar}
use Rattle.cut_bound.proofs.unit_bounds.longest.Given as goal

abbrev pub invariant-loop-stock : goal.invariant-loop-stock
invariant-loop-stock l = IsLeastSoFar (λ z. z.size.w) l.sizes l.stock-index l.longest
