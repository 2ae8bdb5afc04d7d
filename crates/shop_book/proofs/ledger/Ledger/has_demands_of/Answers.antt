use Rattle.std.specs.Ordering.{nat_cmp}
use Rattle.shop_rows.specs.Keys.{demand_key}
use Rattle.shop_book.specs.Equal.{demand_decides}
use Rattle.shop_book.proofs.Held.{rows_decide}
use Rattle.shop_book.proofs.ledger.Ledger.has_demands_of.Goals as goal

pub returns : goal.returns
returns c =
    let mine = c.args.self.now in
    let its = c.args.other.now in
    rows_decide demand_key nat_cmp demand_decides mine.demands.items its.demands.items c.eq.result c.eq.ensures mine.kept_up.demands_rise its.kept_up.demands_rise
