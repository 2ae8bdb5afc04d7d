use Rattle.std.proofs.Common.{List, sym, subst, ◌∙◌, ap, arith}
use Rattle.cut_wants.specs.declared.wants.Want.{Want}
use Rattle.cut_sheets.specs.Bound.{worth_left}
use Rattle.cut_classes.specs.Grids.{across_of, counted, down_of}
use Rattle.cut_bound.specs.declared.stock.BoundedSize.{BoundedSize}
use Rattle.cut_bound.specs.Bounds.{IsGreatestCost}
use Rattle.cut_bound.proofs.ClassRatings.{counted_less}
use Rattle.cut_bound.proofs.bound.classes_bound.Goals as goal

pub total_left-requires : goal.total_left-requires
total_left-requires c =
    let grid = c.in_ok-grid.grid in
    rw (c.deref-2.ensures.value, c.in_ok-counted.ensures) (omega (arith, counted_less c.args.kerf (across_of grid) (down_of grid) c.args.priced.now, c.requires.total))

pub returns : goal.returns
returns c =
    let grid = c.in_ok-grid.grid in
    let left = c.total_left.ensures ∙ ap worth_left (c.deref-2.ensures.value ∙ c.in_ok-counted.ensures) in
    record {
      across = across_of grid;
      down = down_of grid;
      usable = λ sheet none. (c.in_ok-grid.ensures.usable.across, c.in_ok-grid.ensures.usable.down);
      bounded = c.in_ok-bounded.bounded.items;
      all_bounded = c.in_ok-bounded.ensures.sizes;
      unit_bounds = c.in_ok-bounded.ensures.unit_bounds;
      cost = c.greatest_cost-cost.result;
      greatest =
          subst (λ n. IsGreatestCost c.in_ok-bounded.bounded.items n c.greatest_cost-cost.result) left
          (subst (λ (rs : List BoundedSize). IsGreatestCost rs c.total_left.result c.greatest_cost-cost.result) c.deref.ensures.value c.greatest_cost-cost.ensures);
      divisor = c.divisor_of.result;
      common = c.divisor_of.ensures;
      reported = c.reported_cost.ensures;
    }
