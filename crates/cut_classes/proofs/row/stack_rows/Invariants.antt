use Rattle.std.proofs.Common.{◌≡◌, ℕ, ◌+◌, ◌<◌, ◌≤◌, get_or, map, max}
use Rattle.cut_classes.proofs.row.stack_rows.Given as goal

abbrev pub invariant-loop-p : goal.invariant-loop-p
invariant-loop-p g l =
    ((k : ℕ) → k < l.p → get_or (map g.T.Number.value l.row) k 0
    ≡ max (get_or (map g.T.Number.value l.initial.row) k 0) (get_or (map g.T.Number.value l.low) k 0 + get_or (map g.T.Number.value l.high) k 0))
    × ((k : ℕ) → l.p ≤ k → get_or (map g.T.Number.value l.row) k 0 ≡ get_or (map g.T.Number.value l.initial.row) k 0)
