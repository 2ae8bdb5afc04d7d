use Rattle.std.proofs.Common.{◌≡◌, ◌*◌, ◌-◌, ap, ◌∙◌, sym, subst}
use Rattle.cut_measure.specs.declared.sizes.Axis.{Axis}
use Rattle.cut_measure.specs.declared.sizes.Axis.TheVariants.{X, Y}
use Rattle.cut_tree.specs.Tree.{Tree, Cut}
use Rattle.cut_tree.specs.Nodes.{tree_of}
use Rattle.cut_sheets.specs.Kept.{IsPruned, HasPlaces, Places}
use Rattle.cut_sheets.proofs.PlacedLeaves.{places_x, places_y}
use Rattle.cut_sheets.proofs.place.+place.Goals as goal

pub returns-in_ok-cut-in-X : goal.returns-in_ok-cut-in-X
returns-in_ok-cut-in-X t c =
    let first : Tree = tree_of c.in-Cut.first.value in
    let second : Tree = tree_of c.in-Cut.second.value in
    let e : tree_of c.args.node.now ≡ Cut X c.in-Cut.steps first second = ap tree_of c.in-Cut.is ∙ ap (λ (axis : Axis). Cut axis c.in-Cut.steps first second) c.in-X.is in
    let pl = subst (λ kept. HasPlaces c.args.wants.now c.args.kerf c.args.step kept c.args.w c.args.h) e c.requires.places in
    let pruned = subst IsPruned e c.requires.pruned in
    let placed =
    places_x c.args.wants.now c.args.kerf c.args.step c.in-Cut.steps c.args.w c.args.h first second _ _ pruned.0 pruned.1 pl.0 pl.1 (rw c.deref.ensures at c.in_ok-first-in-X.ensures) (rw c.deref-in-X.ensures at c.in_ok-second-in-X.ensures) in
    let out : Tree = Cut X (c.in-Cut.steps * c.args.step - c.args.kerf) (tree_of c.in_ok-first-in-X.first) (tree_of c.in_ok-second-in-X.second) in
    rw c.in_ok-cut-in-X.ensures (subst (λ kept. Places c.args.wants.now c.args.kerf kept c.args.w c.args.h out) (sym e) placed)

pub returns-in_ok-cut-in-Y : goal.returns-in_ok-cut-in-Y
returns-in_ok-cut-in-Y t c =
    let first : Tree = tree_of c.in-Cut.first.value in
    let second : Tree = tree_of c.in-Cut.second.value in
    let e : tree_of c.args.node.now ≡ Cut Y c.in-Cut.steps first second = ap tree_of c.in-Cut.is ∙ ap (λ (axis : Axis). Cut axis c.in-Cut.steps first second) c.in-Y.is in
    let pl = subst (λ kept. HasPlaces c.args.wants.now c.args.kerf c.args.step kept c.args.w c.args.h) e c.requires.places in
    let pruned = subst IsPruned e c.requires.pruned in
    let placed =
    places_y c.args.wants.now c.args.kerf c.args.step c.in-Cut.steps c.args.w c.args.h first second _ _ pruned.0 pruned.1 pl.0 pl.1 (rw c.deref-in-Y.ensures at c.in_ok-first-in-Y.ensures) (rw c.deref-in-Y-2.ensures at c.in_ok-second-in-Y.ensures) in
    let out : Tree = Cut Y (c.in-Cut.steps * c.args.step - c.args.kerf) (tree_of c.in_ok-first-in-Y.first) (tree_of c.in_ok-second-in-Y.second) in
    rw c.in_ok-cut-in-Y.ensures (subst (λ kept. Places c.args.wants.now c.args.kerf kept c.args.w c.args.h out) (sym e) placed)
