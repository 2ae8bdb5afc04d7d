use Rattle.std.proofs.Common.{Bool, map, take}
use Rattle.std.specs.Prelude.{Contains}
use Rattle.cut_wants.specs.declared.wants.Want.{Want}
use Rattle.cut_classes.specs.Grids.{across_of, down_of}
use Rattle.cut_classes.specs.Filling.{IsBelowAll, IsOffered}
use Rattle.cut_classes.proofs.row.offer_wants.Given as goal

abbrev pub invariant-loop-want : goal.invariant-loop-want
invariant-loop-want g l =
    ((x : Want) → Contains (take l.want-index l.wants) x → (turned : Bool) → IsOffered (down_of l.grid) (across_of l.grid) l.kerf x turned (map g.T.Number.value l.row) l.class)
    × IsBelowAll l.wants l.kerf (down_of l.grid) (across_of l.grid) (map g.T.Number.value l.row) l.class
