use Rattle.std.proofs.Common.{◌≡◌, ℕ, ◌-◌, ◌<◌, ◌≤◌, get_or, map, max}
use Rattle.cut_bars.specs.Levels.{AreCellsBelow, gained}
use Rattle.cut_bars.proofs.cells.raise_freely.Given as goal

abbrev pub invariant-loop-c : goal.invariant-loop-c
invariant-loop-c g l =
    ((k : ℕ) → l.c ≤ k → get_or (map g.T.Number.value l.cells) k 0 ≡ get_or (map g.T.Number.value l.initial.cells) k 0)
    × ((k : ℕ) → k < l.step → get_or (map g.T.Number.value l.cells) k 0 ≡ get_or (map g.T.Number.value l.initial.cells) k 0)
    × AreCellsBelow g.T.Number.limit (map g.T.Number.value l.cells) l.step l.gain
    × ((k : ℕ) → l.step ≤ k → k < l.c
    → get_or (map g.T.Number.value l.cells) k 0 ≡ max (get_or (map g.T.Number.value l.initial.cells) k 0) (gained l.gain (get_or (map g.T.Number.value l.cells) (k - l.step) 0)))
