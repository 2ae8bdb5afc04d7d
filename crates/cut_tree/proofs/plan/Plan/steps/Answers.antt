use Rattle.std.proofs.Common.{arith}
use Rattle.cut_tree.specs.Nodes.{tree_of}
use Rattle.cut_tree.proofs.NodeCounts.{node_count-le}
use Rattle.cut_tree.proofs.StepPlaces.{all_steps}
use Rattle.cut_tree.proofs.plan.Plan.steps.Goals as goal

pub step_node-requires-clause-nodes : goal.step_node-requires-clause-nodes
step_node-requires-clause-nodes c = rw c.deref.ensures (omega (arith, node_count-le (tree_of c.self.inside.root.value), c.self.invariant.few_cuts))

pub returns : goal.returns
returns c =
    rw (c.in_ok-step_node.ensures, c.deref.ensures, c.new-steps.ensures.items, c.w.ensures.value, c.h.ensures.value, ← c.self.view_is)
    (all_steps (tree_of c.self.inside.root.value) c.self.inside.size.w c.self.inside.size.h c.self.inside.kerf)
