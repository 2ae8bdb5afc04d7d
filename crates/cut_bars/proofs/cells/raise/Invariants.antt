use Rattle.std.proofs.Common.{◌≡◌, ℕ, ◌-◌, ◌<◌, ◌≤◌, get_or, length, map, max}
use Rattle.cut_bars.specs.Levels.{gained}
use Rattle.cut_bars.proofs.cells.raise.Given as goal

abbrev pub invariant-loop-c : goal.invariant-loop-c
invariant-loop-c g l =
    ((k : ℕ) → k < l.c → get_or (map g.T.Number.value l.cells) k 0 ≡ get_or (map g.T.Number.value l.initial.cells) k 0)
    × ((k : ℕ) → k < l.step → get_or (map g.T.Number.value l.cells) k 0 ≡ get_or (map g.T.Number.value l.initial.cells) k 0)
    × ((k : ℕ) → l.step ≤ k → l.c ≤ k → k < length (map g.T.Number.value l.initial.cells)
    → get_or (map g.T.Number.value l.cells) k 0 ≡ max (get_or (map g.T.Number.value l.initial.cells) k 0) (gained l.gain (get_or (map g.T.Number.value l.initial.cells) (k - l.step) 0)))
