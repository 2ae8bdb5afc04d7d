use Rattle.std.proofs.Common.{◌≡◌, take}
use Rattle.std.specs.Prelude.{All}
use Rattle.cut_bound.specs.Bounds.{sizes_of}
use Rattle.cut_bound.specs.UnitBounds.{IsBarBound}
use Rattle.cut_bound.proofs.unit_bounds.bounded_bars.Given as goal

abbrev pub invariant-loop-stock : goal.invariant-loop-stock
invariant-loop-stock l = record { sizes : sizes_of l.bounded.items ≡ take l.stock-index l.sizes; unit_bounds : All (λ r. IsBarBound l.wants l.kerf r.stock.size.w r.best) l.bounded.items }
