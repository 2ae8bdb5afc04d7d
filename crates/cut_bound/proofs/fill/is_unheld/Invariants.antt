use Rattle.std.proofs.Common.{◌≡◌, ℕ, ◌<◌, Some}
use Rattle.std.specs.Prelude.{IfSome, IsTrue, slice_get}
use Rattle.cut_plan.specs.Faults.{is_fitting}
use Rattle.cut_bound.specs.declared.stock.StockSize.{StockSize}
use Rattle.cut_bound.specs.Solutions.{units_at}
use Rattle.cut_bound.specs.Planned.{solution_of}
use Rattle.cut_bound.proofs.fill.is_unheld.Given as goal

abbrev pub invariant-loop-place : goal.invariant-loop-place
invariant-loop-place l =
    (p : ℕ) (s : StockSize) → p < l.place → slice_get l.sizes p ≡ Some s → IfSome s.limit (λ n. units_at (solution_of l.units) p < n) → IsTrue (is_fitting s.size l.want) → ⊥
