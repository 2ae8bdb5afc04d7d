use Rattle.cut_sheets.specs.Rounded.{steps_down}
use Rattle.cut_bound.proofs.GreatestCosts.{IsLeastSoFar}
use Rattle.cut_bound.proofs.unit_bounds.most_across.Given as goal

abbrev pub invariant-loop-stock : goal.invariant-loop-stock
invariant-loop-stock l = IsLeastSoFar (λ z. steps_down l.kerf l.step z.size.w) l.sizes l.stock-index l.most
