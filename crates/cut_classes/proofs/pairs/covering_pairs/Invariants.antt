use Rattle.cut_classes.specs.Grids.{classes}
use Rattle.cut_classes.proofs.Loops.{AreFront}
use Rattle.cut_classes.proofs.pairs.covering_pairs.Given as goal

abbrev pub invariant-loop-handled : goal.invariant-loop-handled
invariant-loop-handled l = AreFront (classes l.points l.most) l.class l.handled l.beaten l.pairs.items
