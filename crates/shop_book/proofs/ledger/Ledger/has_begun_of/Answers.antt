use Rattle.std.specs.Ordering.{nat_cmp}
use Rattle.shop_rows.specs.Keys.{begin_key}
use Rattle.shop_book.specs.Equal.{begin_decides}
use Rattle.shop_book.proofs.Held.{rows_decide}
use Rattle.shop_book.proofs.ledger.Ledger.has_begun_of.Goals as goal

pub returns : goal.returns
returns c =
    let mine = c.args.self.now in
    let its = c.args.other.now in
    rows_decide begin_key nat_cmp begin_decides mine.begun.items its.begun.items c.eq.result c.eq.ensures mine.kept_up.begun_rise its.kept_up.begun_rise
