use Rattle.shop_book.proofs.Filed.{line_more}
use Rattle.shop_book.proofs.number_index.NumberIndex.order_act.Goals as goal

pub loop-row-preserved : goal.loop-row-preserved
loop-row-preserved c =
    record {
      left = c.with_line-first.ensures.left c.loop-row.invariant.left;
      none =
          line_more c.args.self.now c.args.rows.now c.args.order c.args.last c.loop-row.row-index c.row-item.result c.loop-row.first c.with_line-first.result c.loop-row-test.true c.row-item.is c.loop-row.invariant
          c.with_line-first.ensures.first c.with_line-first.ensures.own;
    }
