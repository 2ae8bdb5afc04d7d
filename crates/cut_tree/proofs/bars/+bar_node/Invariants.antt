use Rattle.std.proofs.Common.{length}
use Rattle.cut_tree.proofs.bars.+bar_node.Given as goal

abbrev pub decreases-bar_node : goal.decreases-bar_node
decreases-bar_node l = length l.pieces.now
