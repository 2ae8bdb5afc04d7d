use Rattle.std.proofs.Common.{◌≡◌, ◌++◌, drop}
use Rattle.cut_classes.specs.Grids as grids
use Rattle.cut_classes.specs.Grids.{across_of, down_of}
use Rattle.cut_classes.proofs.usable.counted_wants.Given as goal

abbrev pub invariant-loop-want : goal.invariant-loop-want
invariant-loop-want l =
    l.counted.items ++ grids.counted l.kerf (across_of l.grid) (down_of l.grid) (drop l.want-index l.wants) ≡ grids.counted l.kerf (across_of l.grid) (down_of l.grid) l.wants
