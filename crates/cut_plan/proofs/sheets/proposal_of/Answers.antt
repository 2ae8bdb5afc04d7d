use Rattle.std.proofs.Common.{arith, refl, ◌<◌, inr}
use Rattle.cut_tree.specs.declared.token.TheConstants.{MAX_CUTS}
use Rattle.cut_plan.proofs.SheetPlans.{demands_of, shaped_of}
use Rattle.cut_tree.specs.Tree.{cut_count}
use Rattle.cut_tree.specs.Nodes.{tree_of}
use Rattle.cut_plan.proofs.sheets.proposal_of.Goals as goal

pub of-requires : goal.of-requires
of-requires c = record {
  shaped = shaped_of c.args.wants.now c.args.kerf _ c.args.size.w c.args.size.h c.requires.laid.legal;
  few_cuts = omega arith;
  demands = demands_of c.args.wants.now c.args.kerf _ c.args.size.w c.args.size.h c.requires.demands c.requires.laid.legal;
  some_width = omega (arith, c.w.ensures.value, c.w.ensures.least);
  width_in_range = omega (arith, c.w.ensures.value, c.w.ensures.most);
  some_height = omega (arith, c.h.ensures.value, c.h.ensures.least);
  height_in_range = omega (arith, c.h.ensures.value, c.h.ensures.most);
  narrow = c.requires.kerf;
}

pub returns-then-count_cuts-gt-MAX_CUTS-clause-err : goal.returns-then-count_cuts-gt-MAX_CUTS-clause-err
returns-then-count_cuts-gt-MAX_CUTS-clause-err c =
    let many : MAX_CUTS < cut_count (tree_of c.args.laid.root) = omega (arith, c.if-count_cuts-gt-MAX_CUTS.true, c.count_cuts.ensures) in inr (
      refl,
      record {
        tree = _;
        worth = _;
        dropped = _;
        laid = c.requires.laid;
        many = omega (arith, many, c.requires.laid.few_cuts);
        many_cuts = many;
      },
    )
