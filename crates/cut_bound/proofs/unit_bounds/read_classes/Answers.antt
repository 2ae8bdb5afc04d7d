use Rattle.std.proofs.Common.{◌+◌, ◌≤◌, arith}
use Rattle.cut_classes.specs.Filling.{worth_in}
use Rattle.cut_classes.specs.Grids.{across_of, down_of}
use Rattle.cut_bound.specs.declared.stock.StockSize.{StockSize}
use Rattle.cut_bound.specs.declared.stock.BoundedSize.{BoundedSize}
use Rattle.cut_bound.specs.UnitBounds.{IsClassBound}
use Rattle.cut_bound.proofs.OrderFaults.{each_size, bounded_next}
use Rattle.cut_bound.proofs.unit_bounds.read_classes.Goals as goal

pub loop-stock-preserved : goal.loop-stock-preserved
loop-stock-preserved c =
    let g = c.args.grid.now in
    let wide = each_size (λ (z : StockSize). z.size.w + c.args.kerf ≤ g.most_across) c.args.sizes.now c.loop-stock.stock-index c.stock-item.result (omega arith) c.stock-item.is c.requires.wide in
    let tall = each_size (λ (z : StockSize). z.size.h + c.args.kerf ≤ g.most_down) c.args.sizes.now c.loop-stock.stock-index c.stock-item.result (omega arith) c.stock-item.is c.requires.tall in
    let rate : IsClassBound c.args.wants.now c.args.kerf (across_of g) (down_of g) c.stock-item.result.size c.ceiling_of-best.result =
    record { table = worth_in c.args.table.now; least = c.requires.table; worth = c.ceiling_of-best.ensures c.requires.usable wide tall } in
    let n =
    bounded_next (λ (r : BoundedSize). IsClassBound c.args.wants.now c.args.kerf (across_of g) (down_of g) r.stock.size r.best) c.args.sizes.now c.loop-stock.bounded.items c.push.new.self.items
    c.loop-stock.stock-index c.stock-item.result c.ceiling_of-best.result c.loop-stock.invariant.sizes c.loop-stock.invariant.unit_bounds (omega arith) c.stock-item.is rate c.in_ok-push.ensures.items in
    record { sizes = n.0; unit_bounds = n.1 }
