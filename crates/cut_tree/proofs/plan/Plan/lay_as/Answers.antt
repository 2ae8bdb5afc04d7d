use Rattle.std.proofs.Common.{arith}
use Rattle.cut_tree.specs.Nodes.{tree_of}
use Rattle.cut_tree.specs.Stops.{outcome_of}
use Rattle.cut_tree.proofs.NodeCounts.{node_count-le}
use Rattle.cut_tree.proofs.CoveredCells.{laid}
use Rattle.cut_tree.proofs.plan.Plan.lay_as.Goals as goal

pub lay_node-requires-clause-nodes : goal.lay_node-requires-clause-nodes
lay_node-requires-clause-nodes c = rw c.deref.ensures (omega (arith, node_count-le (tree_of c.self.inside.root.value), c.self.invariant.few_cuts))

pub returns : goal.returns
returns c =
    rw (c.in_ok-lay_node.ensures, c.deref.ensures, c.new-rows.ensures.items, c.w.ensures.value, c.h.ensures.value, ← c.self.view_is)
    (laid (tree_of c.self.inside.root.value) c.self.inside.size.w c.self.inside.size.h c.self.inside.kerf (outcome_of c.args.stop.now) c.self.invariant.some_width c.self.invariant.some_height c.self.invariant.shaped)
