use Rattle.std.proofs.Common.{false, take_all, refl, subst, arith}
use Rattle.std.specs.Prelude.{All}
use Rattle.std.proofs.lemmas.List.Elements.{All-more}
use Rattle.cut_tree.specs.declared.leaves.Leaf.{Leaf}
use Rattle.cut_wants.specs.Legal.{IsWantedPiece}
use Rattle.cut_bound.proofs.planned.are_wanted.Goals as goal

pub loop-leaf-preserved : goal.loop-leaf-preserved
loop-leaf-preserved c =
    let P = λ (l : Leaf). IsWantedPiece c.args.wants.now l.demand l.turned l.w l.h in
    All-more P c.args.leaves.now c.loop-leaf.leaf-index (record { demand = 0; turned = false; w = 0; h = 0 }) (omega arith) c.loop-leaf.invariant (c.if-not-is_wanted.ensures.0 refl)

pub returns : goal.returns
returns c =
    let P = λ (l : Leaf). IsWantedPiece c.args.wants.now l.demand l.turned l.w l.h in
    (λ _. subst (All P) (take_all c.loop-leaf.leaf-index c.args.leaves.now (omega arith)) c.loop-leaf.invariant, λ _. refl)
