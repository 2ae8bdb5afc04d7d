use Rattle.std.proofs.Common.{◌≡◌, ℕ, ◌<◌, ◌≤◌, Some}
use Rattle.std.specs.Prelude.{IfSome, slice_get}
use Rattle.cut_bound.specs.declared.stock.StockSize.{StockSize}
use Rattle.cut_bound.specs.Solutions.{units_at}
use Rattle.cut_bound.specs.Planned.{solution_of}
use Rattle.cut_bound.proofs.check.are_at_hand.Given as goal

abbrev pub invariant-loop-place : goal.invariant-loop-place
invariant-loop-place l = (p : ℕ) (s : StockSize) → p < l.place → slice_get l.sizes p ≡ Some s → IfSome s.limit (λ n. units_at (solution_of l.units) p ≤ n)
