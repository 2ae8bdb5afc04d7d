use Rattle.std.proofs.Common.{arith}
use Rattle.cut_tree.specs.Nodes.{tree_of}
use Rattle.cut_tree.proofs.NodeCounts.{count_of-le}
use Rattle.cut_tree.proofs.node.+count_pieces.Goals as goal

pub overflow_add-result : goal.overflow_add-result
overflow_add-result t c =
    let few = rw c.in-Cut.is at c.requires in
    let first = rw c.deref-in-Cut.ensures at c.count_pieces-in-Cut.ensures in
    let second = rw c.deref-in-Cut-2.ensures at c.count_pieces-in-Cut-2.ensures in
    omega (arith, few, first, second, count_of-le (tree_of c.in-Cut.first.value) c.args.demand, count_of-le (tree_of c.in-Cut.second.value) c.args.demand)
