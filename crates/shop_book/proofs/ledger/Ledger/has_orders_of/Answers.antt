use Rattle.std.proofs.Common.{◌∙◌}
use Rattle.shop_book.proofs.KnownRows.{codes_rise}
use Rattle.shop_book.proofs.Orders.{orders_decide}
use Rattle.shop_book.proofs.ledger.Ledger.has_orders_of.Goals as goal

pub returns : goal.returns
returns c =
    let mine = c.args.self.now in
    let its = c.args.other.now in
    orders_decide mine.orders.items its.orders.items c.eq.result c.eq.ensures (codes_rise mine.orders.items ∙ mine.kept_up.orders_rise) (codes_rise its.orders.items ∙ its.kept_up.orders_rise)
