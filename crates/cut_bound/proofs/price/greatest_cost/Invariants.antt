use Rattle.cut_bound.specs.Bounds.{SetsPrice, cost_at}
use Rattle.cut_bound.proofs.GreatestCosts.{IsGreatestSoFar}
use Rattle.cut_bound.proofs.price.greatest_cost.Given as goal

abbrev pub invariant-loop-by : goal.invariant-loop-by
invariant-loop-by l = IsGreatestSoFar (λ t. SetsPrice t l.bounded) (λ t. cost_at t l.bounded l.worth) l.bounded l.by-index l.greatest
