use Rattle.std.proofs.Common.{arith}
use Rattle.cut_tree.specs.Nodes.{tree_of}
use Rattle.cut_order.proofs.SingleTrees.{single_plan}
use Rattle.cut_order.proofs.single.single_plan.Goals as goal

pub of-requires : goal.of-requires
of-requires c =
    single_plan c.args.kerf c.args.size c.args.want.now (tree_of c.in_ok-node.node) c.in_ok-node.ensures.tree c.requires.fits c.requires.demand c.single_node.ensures.sides.0 c.single_node.ensures.sides.1 c.requires.kerf
    (omega (arith, c.w-width.ensures.least)) (omega (arith, c.w-width.ensures.most)) (omega (arith, c.h-height.ensures.least)) (omega (arith, c.h-height.ensures.most))
