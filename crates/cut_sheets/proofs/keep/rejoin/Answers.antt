use Rattle.std.proofs.Common.{ap, sym, ◌∙◌}
use Rattle.cut_tree.specs.Nodes.{tree_of}
use Rattle.cut_sheets.specs.Kept.{rejoined}
use Rattle.cut_sheets.proofs.KeptLeaves.{rejoined_push}
use Rattle.cut_sheets.proofs.keep.rejoin.Goals as goal

pub loop-part-preserved : goal.loop-part-preserved
loop-part-preserved c =
    ap (rejoined c.pop.new.self.items) c.in_ok-node.ensures
    ∙ sym (rejoined_push c.pop.new.self.items c.in-Some.part (tree_of c.loop-part.node))
    ∙ ap (λ parts. rejoined parts (tree_of c.loop-part.node)) (sym c.in-Some.ensures.items)
    ∙ c.loop-part.invariant
