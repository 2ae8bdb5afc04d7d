use Rattle.std.proofs.Common.{ℕ, ◌+◌, ◌<◌, ◌≤◌, slice_index}
use Rattle.cut_classes.specs.Classes as specs
use Rattle.cut_classes.specs.Grids.{classes}
use Rattle.cut_classes.proofs.narrow.slack_of.Given as goal

abbrev pub invariant-loop-class : goal.invariant-loop-class
invariant-loop-class l = (i : ℕ) → 1 ≤ i → i < l.class → specs.high_of (classes l.points l.most) i ≤ slice_index l.points i + l.slack
