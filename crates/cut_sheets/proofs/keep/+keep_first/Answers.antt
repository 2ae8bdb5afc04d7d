use Rattle.std.proofs.Common.{arith, refl}
use Rattle.cut_tree.specs.Tree.{Rest}
use Rattle.cut_sheets.proofs.BestWorths.{in_get, grown_from, second_fits, second_fits_y, area_pos}
use Rattle.cut_sheets.proofs.KeptLeaves.{first_none, first_piece, leads_x, leads_y}
use Rattle.cut_sheets.proofs.keep.+keep_first.Goals as goal

pub returns-in-Waste-clause-kept : goal.returns-in-Waste-clause-kept
returns-in-Waste-clause-kept t c =
    rw c.in_ok-node-in-Waste.ensures (
    c.loop-parts.invariant.3.whole c.loop-parts.counts c.loop-parts.pieces Rest (first_none _ _ _ c.worth_at-best.result _ _ c.worth_at-best.ensures c.in-Waste.ensures)
    )

pub returns-in-Waste-clause-grown : goal.returns-in-Waste-clause-grown
returns-in-Waste-clause-grown t c =
    grown_from _ _ _ _ _ c.requires.small c.requires.len (returns-in-Waste-clause-kept t c).keeps.leaves

pub keep_leaf-leaf-requires-clause-place : goal.keep_leaf-leaf-requires-clause-place
keep_leaf-leaf-requires-clause-place t c = in_get c.args.wants.now c.in-Whole.i c.in-Whole.ensures.want c.in-Whole.ensures.here

pub keep_leaf-leaf-requires-clause-fits : goal.keep_leaf-leaf-requires-clause-fits
keep_leaf-leaf-requires-clause-fits t c =
    omega (
      arith,
      area_pos c.args.wants.now c.loop-parts.across c.loop-parts.down c.worth_at-best.result c.in-Whole.i c.in-Whole.turned c.requires.small c.in-Whole.ensures,
      c.loop-parts.invariant.2 c.in-Whole.i (omega (arith, in_get c.args.wants.now c.in-Whole.i c.in-Whole.ensures.want c.in-Whole.ensures.here)),
    )

pub returns-in-Whole-clause-kept : goal.returns-in-Whole-clause-kept
returns-in-Whole-clause-kept t c =
    rw (c.in_ok-node-in-Whole.ensures, c.keep_leaf-leaf.ensures.counted) (
    c.loop-parts.invariant.3.whole _ c.keep_leaf-leaf.new.pieces _
    (first_piece _ _ _ c.worth_at-best.result _ c.in-Whole.turned _ _ _ _ c.requires.own (omega arith) c.worth_at-best.ensures c.in-Whole.ensures
    (c.keep_leaf-leaf.ensures.kept c.in-Whole.ensures.want c.in-Whole.ensures.here))
    )

pub returns-in-Whole-clause-grown : goal.returns-in-Whole-clause-grown
returns-in-Whole-clause-grown t c =
    grown_from _ _ _ _ _ c.requires.small c.requires.len (returns-in-Whole-clause-kept t c).keeps.leaves

pub loop-parts-preserved-in-CutX : goal.loop-parts-preserved-in-CutX
loop-parts-preserved-in-CutX t c = (
  omega (arith, c.loop-parts.invariant.0),
  c.loop-parts.invariant.1,
  λ i lt. second_fits _ _ _ _ _ (c.loop-parts.invariant.2 i (omega arith)) (c.in_ok-first-in-CutX.ensures.grown i (omega arith)) c.in-CutX.ensures.inside,
  rw c.in_ok-push-in-CutX.ensures.items
      (leads_x _ _ _ _ _ _ _ _ _ _ c.worth_at-best.result _ _ _ _ c.loop-parts.invariant.3 c.worth_at-best.ensures c.in-CutX.ensures refl (omega arith) c.in_ok-first-in-CutX.ensures.kept),
)

pub loop-parts-preserved : goal.loop-parts-preserved
loop-parts-preserved t c = (
  c.loop-parts.invariant.0,
  omega (arith, c.loop-parts.invariant.1),
  λ i lt. second_fits_y _ _ _ _ _ (c.loop-parts.invariant.2 i (omega arith)) (c.in_ok-first-in-CutY.ensures.grown i (omega arith)) c.in-CutY.ensures.inside,
  rw c.in_ok-push-in-CutY.ensures.items
      (leads_y _ _ _ _ _ _ _ _ _ _ c.worth_at-best.result _ _ _ _ c.loop-parts.invariant.3 c.worth_at-best.ensures c.in-CutY.ensures refl (omega arith) c.in_ok-first-in-CutY.ensures.kept),
)
