use Rattle.std.proofs.Common.{◌≡◌, vec_len}
use Rattle.cut_tree.specs.Nodes.{tree_of}
use Rattle.cut_sheets.specs.Kept.{rejoined}
use Rattle.cut_sheets.proofs.keep.rejoin.Given as goal

abbrev pub invariant-loop-part : goal.invariant-loop-part
invariant-loop-part l = rejoined l.parts.items (tree_of l.node) ≡ rejoined l.initial.parts.items (tree_of l.initial.node)

abbrev pub decreases-loop-part : goal.decreases-loop-part
decreases-loop-part l = vec_len l.parts
