use Rattle.std.proofs.Common.{◌≡◌, ◌≤◌, List, false, subst}
use Rattle.std.proofs.lemmas.List.Elements.{All-weaker}
use Rattle.cut_measure.specs.declared.sizes.Kind.TheVariants.{Bar}
use Rattle.cut_bars.specs.declared.bar.TheConstants.{MAX_BAR_LENGTH}
use Rattle.cut_plan.proofs.Faultless as facts
use Rattle.cut_bound.specs.declared.stock.StockSize.{StockSize}
use Rattle.cut_bound.specs.declared.stock.BoundedSize.{BoundedSize}
use Rattle.cut_bound.specs.Bounds.{IsGreatestCost}
use Rattle.cut_bound.specs.UnitBounds.{is_large}
use Rattle.cut_bound.proofs.ClassRatings.{far_classes}
use Rattle.cut_bound.proofs.bound.bars_bound.Goals as goal

pub bounded_bars-requires-clause-modest : goal.bounded_bars-requires-clause-modest
bounded_bars-requires-clause-modest c = c.requires.ratable.1.modest

pub bounded_bars-requires-clause-short : goal.bounded_bars-requires-clause-short
bounded_bars-requires-clause-short c =
    All-weaker (λ (z : StockSize). is_large Bar z.size c.args.kerf c.requires.ratable.0 ≡ false) (λ (z : StockSize). z.size.w ≤ MAX_BAR_LENGTH) (λ z e. facts.short z.size c.args.kerf 0 e)
    c.args.sizes.now c.requires.ratable.1.small

pub total_left-requires : goal.total_left-requires
total_left-requires c = c.requires.ratable.1.total

pub returns : goal.returns
returns c = λ step. record {
  across = far_classes 1;
  down = far_classes 1;
  usable = λ sheet none. absurd (cc);
  bounded = c.in_ok-bounded.bounded.items;
  all_bounded = c.in_ok-bounded.ensures.sizes;
  unit_bounds = c.in_ok-bounded.ensures.unit_bounds;
  cost = c.greatest_cost-cost.result;
  greatest =
      subst (λ n. IsGreatestCost c.in_ok-bounded.bounded.items n c.greatest_cost-cost.result) c.total_left.ensures
      (subst (λ (rs : List BoundedSize). IsGreatestCost rs c.total_left.result c.greatest_cost-cost.result) c.deref.ensures.value c.greatest_cost-cost.ensures);
  divisor = c.divisor_of.result;
  common = c.divisor_of.ensures;
  reported = c.reported_cost.ensures;
}
