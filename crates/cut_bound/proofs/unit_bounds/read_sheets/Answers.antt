use Rattle.std.proofs.Common.{◌+◌, ◌/◌, ◌<◌, sym, subst, arith}
use Rattle.cut_wants.specs.Best.{IsBestOf}
use Rattle.cut_sheets.specs.Rounded.{steps_down}
use Rattle.cut_sheets.specs.Table.{heights}
use Rattle.cut_bound.specs.declared.stock.StockSize.{StockSize}
use Rattle.cut_bound.specs.declared.stock.BoundedSize.{BoundedSize}
use Rattle.cut_bound.proofs.OrderFaults.{each_size, bounded_next}
use Rattle.cut_bound.proofs.unit_bounds.read_sheets.Goals as goal

pub worth_at-best-requires-clause-w : goal.worth_at-best-requires-clause-w
worth_at-best-requires-clause-w c =
    subst (λ w. (w + c.args.kerf) / c.args.step < c.args.places) (sym c.w.ensures.value)
    (each_size (λ (z : StockSize). steps_down c.args.kerf c.args.step z.size.w < c.args.places) c.args.sizes.now c.loop-stock.stock-index c.stock-item.result (omega arith) c.stock-item.is c.requires.wide)

pub worth_at-best-requires-clause-h : goal.worth_at-best-requires-clause-h
worth_at-best-requires-clause-h c =
    subst (λ h. (h + c.args.kerf) / c.args.step < heights c.args.table.now) (sym c.h.ensures.value)
    (each_size (λ (z : StockSize). steps_down c.args.kerf c.args.step z.size.h < heights c.args.table.now) c.args.sizes.now c.loop-stock.stock-index c.stock-item.result (omega arith) c.stock-item.is c.requires.tall)

pub loop-stock-preserved : goal.loop-stock-preserved
loop-stock-preserved c =
    let rate : IsBestOf c.args.rounded.now 0 (steps_down c.args.kerf c.args.step c.stock-item.result.size.w) (steps_down c.args.kerf c.args.step c.stock-item.result.size.h) c.worth_at-best.result =
    subst (λ w. IsBestOf c.args.rounded.now 0 ((w + c.args.kerf) / c.args.step) (steps_down c.args.kerf c.args.step c.stock-item.result.size.h) c.worth_at-best.result) c.w.ensures.value
    (subst (λ h. IsBestOf c.args.rounded.now 0 ((c.w.result + c.args.kerf) / c.args.step) ((h + c.args.kerf) / c.args.step) c.worth_at-best.result) c.h.ensures.value c.worth_at-best.ensures) in
    let n =
    bounded_next (λ (r : BoundedSize). IsBestOf c.args.rounded.now 0 (steps_down c.args.kerf c.args.step r.stock.size.w) (steps_down c.args.kerf c.args.step r.stock.size.h) r.best) c.args.sizes.now
    c.loop-stock.bounded.items c.push.new.self.items c.loop-stock.stock-index c.stock-item.result c.worth_at-best.result c.loop-stock.invariant.sizes c.loop-stock.invariant.unit_bounds (omega arith) c.stock-item.is rate
    c.in_ok-push.ensures.items in
    record { sizes = n.0; unit_bounds = n.1 }
