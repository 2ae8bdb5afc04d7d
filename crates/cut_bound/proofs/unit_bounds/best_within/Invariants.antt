use Rattle.std.proofs.Common.{◌≤◌}
use Rattle.cut_bound.proofs.GreatestCosts.{IsGreatestSoFar}
use Rattle.cut_bound.proofs.unit_bounds.best_within.Given as goal

abbrev pub invariant-loop-entry : goal.invariant-loop-entry
invariant-loop-entry l = IsGreatestSoFar (λ e. e.span ≤ l.span) (λ e. e.worth) l.entries l.entry-index l.best
