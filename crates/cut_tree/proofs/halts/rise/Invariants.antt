use Rattle.std.proofs.Common.{◌+◌, ◌<◌, ℕ, length}
use Rattle.std.specs.List.{slice_index}
use Rattle.cut_tree.proofs.halts.rise.Given as goal

abbrev pub invariant-loop-i : goal.invariant-loop-i
invariant-loop-i l = (k : ℕ) → k + 1 < l.i → k + 1 < length l.cuts → slice_index l.cuts k < slice_index l.cuts (k + 1)
