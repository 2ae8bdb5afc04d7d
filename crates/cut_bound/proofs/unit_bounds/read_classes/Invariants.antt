use Rattle.std.proofs.Common.{◌≡◌, take}
use Rattle.std.specs.Prelude.{All}
use Rattle.cut_classes.specs.Grids.{across_of, down_of}
use Rattle.cut_bound.specs.Bounds.{sizes_of}
use Rattle.cut_bound.specs.UnitBounds.{IsClassBound}
use Rattle.cut_bound.proofs.unit_bounds.read_classes.Given as goal

abbrev pub invariant-loop-stock : goal.invariant-loop-stock
invariant-loop-stock l = record {
  sizes : sizes_of l.bounded.items ≡ take l.stock-index l.sizes;
  unit_bounds : All (λ r. IsClassBound l.wants l.kerf (across_of l.grid) (down_of l.grid) r.stock.size r.best) l.bounded.items;
}
