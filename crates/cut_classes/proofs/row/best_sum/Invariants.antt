use Rattle.std.proofs.Common.{ℕ, ◌+◌, ◌≤◌, map, slice_index, take}
use Rattle.std.specs.Prelude.{Contains}
use Rattle.cut_classes.specs.declared.pairs.Pair.{Pair}
use Rattle.cut_classes.proofs.row.best_sum.Given as goal

abbrev pub invariant-loop-pair : goal.invariant-loop-pair
invariant-loop-pair g l =
    let r = map g.T.Number.value l.row in
    (g.T.Number.value l.fn.worth ≤ g.T.Number.value l.best)
    × ((p : Pair) → Contains (take l.pair-index l.pairs) p → slice_index r p.first + slice_index r p.second ≤ g.T.Number.value l.best)
    × ((bound : ℕ) → g.T.Number.value l.fn.worth ≤ bound → ((p : Pair) → Contains l.pairs p → slice_index r p.first + slice_index r p.second ≤ bound) → g.T.Number.value l.best ≤ bound)
