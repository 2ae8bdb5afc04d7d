use Rattle.std.proofs.Common.{◌≡◌, ◌≤◌, ◌<◌, ℕ, false}
use Rattle.cut_tree.specs.Stops.{is_tried}
use Rattle.cut_tree.proofs.halts.none_tried.Given as goal

abbrev pub invariant-loop-cut : goal.invariant-loop-cut
invariant-loop-cut l = (d : ℕ) → l.from ≤ d → d < l.cut → is_tried l.cuts l.lost d ≡ false
