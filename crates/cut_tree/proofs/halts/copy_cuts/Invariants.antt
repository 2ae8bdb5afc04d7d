use Rattle.std.proofs.Common.{◌≡◌, take}
use Rattle.cut_tree.proofs.halts.copy_cuts.Given as goal

abbrev pub invariant-loop-cut : goal.invariant-loop-cut
invariant-loop-cut l = l.copy ≡ take l.cut-index l.cuts
