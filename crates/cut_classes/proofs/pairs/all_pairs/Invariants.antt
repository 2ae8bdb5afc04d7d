use Rattle.std.proofs.Common.{◌≡◌, length}
use Rattle.cut_classes.specs.Filling.{CoverParts}
use Rattle.cut_classes.specs.Grids.{classes}
use Rattle.cut_classes.proofs.pairs.all_pairs.Given as goal

abbrev pub invariant-loop-class : goal.invariant-loop-class
invariant-loop-class l = (length l.lists.items ≡ l.class) × CoverParts (classes l.points l.most) l.lists.items
