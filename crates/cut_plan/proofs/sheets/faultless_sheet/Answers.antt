use Rattle.std.proofs.Common.{refl, inr, ◌∙◌}
use Rattle.std.proofs.lemmas.Bool.{not-true}
use Rattle.std.proofs.lemmas.List.{length-map}
use Rattle.cut_measure.specs.declared.sizes.Kind.TheVariants.{Sheet}
use Rattle.cut_sheets.specs.Rounded.{want_up}
use Rattle.cut_plan.proofs.Faultless as facts
use Rattle.cut_plan.proofs.SheetPlans.{many_kept}
use Rattle.cut_plan.proofs.sheets.faultless_sheet.Goals as goal

pub returns-then-not-best_leaves-clause-err : goal.returns-then-not-best_leaves-clause-err
returns-then-not-best_leaves-clause-err c =
    let f = facts.faultless Sheet c.args.size c.args.kerf c.args.step c.args.wants.now c.requires.faultless in
    let k = c.in-Ok.ensures.kept in inr (
      refl,
      many_kept c.args.size c.args.kerf c.args.step c.args.wants.now c.in-Ok.best_leaves.counts.items k.all (facts.own _ Sheet c.args.wants.now f.in_range) c.in-Ok.ensures.sides
          (facts.is_step c.args.kerf c.args.step c.args.wants.now f.stepped).some k.best_leaves (k.best_leaves.len ∙ length-map c.args.wants.now (want_up c.args.kerf c.args.step)) (k.more (not-true _ c.if-not-best_leaves.true)),
    )
