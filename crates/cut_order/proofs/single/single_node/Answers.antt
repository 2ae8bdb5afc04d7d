use Rattle.std.proofs.Common.{sym}
use Rattle.cut_tree.specs.Nodes.{tree_of}
use Rattle.cut_order.proofs.SingleTrees.{turned_is, upright_is}
use Rattle.cut_order.proofs.single.single_node.Goals as goal

pub returns-then-is_upright-clause-tree : goal.returns-then-is_upright-clause-tree
returns-then-is_upright-clause-tree c =
    upright_is c.args.kerf c.args.size c.args.want.now c.w-w.result c.h-h.result (tree_of c.in_ok-node.node) c.w-w.ensures.value c.h-h.ensures.value (sym c.if-is_upright.ensures) c.in_ok-node.ensures

pub returns-clause-tree : goal.returns-clause-tree
returns-clause-tree c =
    turned_is c.args.kerf c.args.size c.args.want.now c.w-w.result c.h-h.result (tree_of c.in_ok-node-2.node) c.w-w.ensures.value c.h-h.ensures.value (sym c.if-is_upright.ensures) c.in_ok-node-2.ensures
