use Rattle.std.proofs.Common.{ap, ◌∙◌}
use Rattle.cut_tree.specs.Patterns.{Pattern}
use Rattle.cut_tree.specs.Tree.{leaf_sum}
use Rattle.cut_tree.proofs.BarTrees.{fits_spent, leaf_sum-bar_tree, CutsInto-bar_tree, HasDemands-bar_tree}
use Rattle.cut_tree.proofs.plan.bar_plan.Goals as goal

pub of-requires : goal.of-requires
of-requires c =
    let r = rw c.w.ensures.value at c.in_ok-root.ensures in
    let fits = fits_spent c.args.pieces.now c.args.size.w c.args.kerf r.fits in
    rw r.tree
    (record {
      shaped = CutsInto-bar_tree (λ _ _ _ _. Unit {0}) c.args.pieces.now c.args.size.w c.args.size.h c.args.kerf (λ i d l. (c.requires.pieces i d l).2) (λ i d l. tt) fits;
      few_cuts = r.few_cuts;
      demands = HasDemands-bar_tree c.args.pieces.now c.args.size.w c.args.kerf c.requires.pieces fits;
      some_width = rw (← c.w.ensures.value) c.w.ensures.least;
      width_in_range = rw (← c.w.ensures.value) c.w.ensures.most;
      some_height = rw (← c.h-height.ensures.value) c.h-height.ensures.least;
      height_in_range = rw (← c.h-height.ensures.value) c.h-height.ensures.most;
      narrow = c.requires.narrow;
    })

pub returns-in-Ok-clause-sums : goal.returns-in-Ok-clause-sums
returns-in-Ok-clause-sums c = λ f.
    let r = rw c.w.ensures.value at c.in_ok-root.ensures in
    ap (λ (p : Pattern). leaf_sum f p.tree) c.in-Ok.ensures
    ∙ ap (leaf_sum f) r.tree
    ∙ leaf_sum-bar_tree f c.args.pieces.now c.args.size.w c.args.kerf (λ i d l. (c.requires.pieces i d l).2) (fits_spent c.args.pieces.now c.args.size.w c.args.kerf r.fits)
