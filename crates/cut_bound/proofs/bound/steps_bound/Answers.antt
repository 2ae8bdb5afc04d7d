use Rattle.std.proofs.Common.{◌≡◌, ◌≤◌, List, Some, false, refl, subst}
use Rattle.std.proofs.lemmas.List.Elements.{All-weaker}
use Rattle.cut_measure.specs.declared.sizes.Kind.TheVariants.{Sheet}
use Rattle.cut_sheets.specs.declared.sheet.TheConstants.{MAX_STEPS}
use Rattle.cut_sheets.specs.Rounded.{steps_down}
use Rattle.cut_plan.proofs.Faultless as facts
use Rattle.cut_bound.specs.declared.stock.StockSize.{StockSize}
use Rattle.cut_bound.specs.declared.stock.BoundedSize.{BoundedSize}
use Rattle.cut_bound.specs.Bounds.{IsGreatestCost}
use Rattle.cut_bound.specs.UnitBounds.{is_large}
use Rattle.cut_bound.proofs.ClassRatings.{far_classes}
use Rattle.cut_bound.proofs.bound.steps_bound.Goals as goal

pub bounded_sheets-requires-clause-step : goal.bounded_sheets-requires-clause-step
bounded_sheets-requires-clause-step c = c.requires.ratable.stepped refl c.args.step refl

pub bounded_sheets-requires-clause-wide : goal.bounded_sheets-requires-clause-wide
bounded_sheets-requires-clause-wide c =
    All-weaker (λ (z : StockSize). is_large Sheet z.size c.args.kerf (Some c.args.step) ≡ false) (λ (z : StockSize). steps_down c.args.kerf c.args.step z.size.w ≤ MAX_STEPS)
    (λ z e. (facts.few_steps z.size c.args.kerf c.args.step e).0) c.args.sizes.now c.requires.ratable.small

pub bounded_sheets-requires-clause-tall : goal.bounded_sheets-requires-clause-tall
bounded_sheets-requires-clause-tall c =
    All-weaker (λ (z : StockSize). is_large Sheet z.size c.args.kerf (Some c.args.step) ≡ false) (λ (z : StockSize). steps_down c.args.kerf c.args.step z.size.h ≤ MAX_STEPS)
    (λ z e. (facts.few_steps z.size c.args.kerf c.args.step e).1) c.args.sizes.now c.requires.ratable.small

pub returns : goal.returns
returns c = record {
  across = far_classes 1;
  down = far_classes 1;
  usable = λ sheet none. absurd (cc);
  bounded = c.in_ok-bounded.bounded.items;
  all_bounded = c.in_ok-bounded.ensures.sizes;
  unit_bounds = c.in_ok-bounded.ensures.unit_bounds;
  cost = c.greatest_cost-cost.result;
  greatest =
      subst (λ n. IsGreatestCost c.in_ok-bounded.bounded.items n c.greatest_cost-cost.result) c.total_left.ensures
      (subst (λ (rs : List BoundedSize). IsGreatestCost rs c.total_left.result c.greatest_cost-cost.result) c.deref.ensures.value c.greatest_cost-cost.ensures);
  divisor = c.divisor_of.result;
  common = c.divisor_of.ensures;
  reported = c.reported_cost.ensures;
}
