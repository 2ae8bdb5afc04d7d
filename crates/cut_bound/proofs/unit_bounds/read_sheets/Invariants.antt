use Rattle.std.proofs.Common.{◌≡◌, take}
use Rattle.std.specs.Prelude.{All}
use Rattle.cut_wants.specs.Best.{IsBestOf}
use Rattle.cut_sheets.specs.Rounded.{steps_down}
use Rattle.cut_bound.specs.Bounds.{sizes_of}
use Rattle.cut_bound.proofs.unit_bounds.read_sheets.Given as goal

abbrev pub invariant-loop-stock : goal.invariant-loop-stock
invariant-loop-stock l = record {
  sizes : sizes_of l.bounded.items ≡ take l.stock-index l.sizes;
  unit_bounds : All (λ r. IsBestOf l.rounded 0 (steps_down l.kerf l.step r.stock.size.w) (steps_down l.kerf l.step r.stock.size.h) r.best) l.bounded.items;
}
