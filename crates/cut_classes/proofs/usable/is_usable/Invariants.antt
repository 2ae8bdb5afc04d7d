use Rattle.std.proofs.Common.{ℕ, ◌+◌, ◌<◌, length, slice_index}
use Rattle.cut_classes.specs.Classes.{high_of}
use Rattle.cut_classes.specs.Grids.{classes}
use Rattle.cut_classes.proofs.usable.is_usable.Given as goal

abbrev pub invariant-loop-class : goal.invariant-loop-class
invariant-loop-class l =
    ((i : ℕ) → i < l.class → i + 1 < length l.points → slice_index l.points i < slice_index l.points (i + 1))
    × ((i : ℕ) → i < l.class → high_of (classes l.points l.most) i < slice_index l.points i + slice_index l.points 1)
