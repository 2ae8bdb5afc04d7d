use Rattle.std.proofs.Common.{◌+◌, ◌≤◌, take}
use Rattle.std.specs.Prelude.{All}
use Rattle.cut_measure.specs.declared.ranges.TheConstants.{MAX_KERF, MAX_WIDTH}
use Rattle.cut_classes.proofs.grid.most_across.Given as goal

abbrev pub invariant-loop-size : goal.invariant-loop-size
invariant-loop-size l = All (λ z. z.w + l.kerf ≤ l.most) (take l.size-index l.sizes) × (1 ≤ l.most) × (l.most ≤ MAX_WIDTH + MAX_KERF)
