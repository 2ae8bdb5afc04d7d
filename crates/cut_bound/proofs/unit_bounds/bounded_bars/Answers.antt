use Rattle.std.proofs.Common.{◌+◌, ◌≤◌, List, subst, arith}
use Rattle.cut_bars.specs.declared.bar.TheConstants.{MAX_BAR_LENGTH}
use Rattle.cut_bars.specs.declared.reach.Entry.{Entry}
use Rattle.cut_bound.specs.declared.stock.StockSize.{StockSize}
use Rattle.cut_bound.specs.declared.stock.BoundedSize.{BoundedSize}
use Rattle.cut_bound.specs.Bounds.{IsGreatest}
use Rattle.cut_bound.specs.UnitBounds.{IsBarBound}
use Rattle.cut_bound.proofs.BarRatings.{bar_rating}
use Rattle.cut_bound.proofs.OrderFaults.{each_size, bounded_next}
use Rattle.cut_bound.proofs.unit_bounds.bounded_bars.Goals as goal

pub reach-requires-clause-size : goal.reach-requires-clause-size
reach-requires-clause-size c = c.longest-longest.ensures.least MAX_BAR_LENGTH c.requires.short

pub loop-stock-preserved : goal.loop-stock-preserved
loop-stock-preserved c =
    let inside : c.stock-item.result.size.w ≤ c.longest-longest.result =
    each_size (λ (z : StockSize). z.size.w ≤ c.longest-longest.result) c.args.sizes.now c.loop-stock.stock-index c.stock-item.result (omega arith) c.stock-item.is c.longest-longest.ensures.most in
    let greatest : IsGreatest (λ e. e.span ≤ c.stock-item.result.size.w + c.args.kerf) (λ e. e.worth) c.in_ok-entries.entries.items c.best_within-best.result =
    subst (λ w. IsGreatest (λ (e : Entry). e.span ≤ w + c.args.kerf) (λ (e : Entry). e.worth) c.in_ok-entries.entries.items c.best_within-best.result) c.w.ensures.value
    (subst (λ (es : List Entry). IsGreatest (λ e. e.span ≤ c.w.result + c.args.kerf) (λ e. e.worth) es c.best_within-best.result) c.deref.ensures.value c.best_within-best.ensures) in
    let rate =
    bar_rating c.args.wants.now c.args.kerf (c.longest-longest.result + c.args.kerf) c.stock-item.result.size.w c.best_within-best.result c.in_ok-entries.entries.items c.in_ok-entries.ensures.reached (omega arith) greatest in
    let n =
    bounded_next (λ (r : BoundedSize). IsBarBound c.args.wants.now c.args.kerf r.stock.size.w r.best) c.args.sizes.now c.loop-stock.bounded.items c.push.new.self.items c.loop-stock.stock-index c.stock-item.result
    c.best_within-best.result c.loop-stock.invariant.sizes c.loop-stock.invariant.unit_bounds (omega arith) c.stock-item.is rate c.in_ok-push.ensures.items in
    record { sizes = n.0; unit_bounds = n.1 }
