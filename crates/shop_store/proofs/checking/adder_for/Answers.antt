use Rattle.std.proofs.Common.{◌∙◌, ap, List}
use Rattle.shop_rows.specs.Adding.{has_sums}
use Rattle.shop_rows.specs.Sums.{sum_at}
use Rattle.shop_rows.specs.declared.sums.Sums.{Sums}
use Rattle.shop_store.proofs.Counting.{more_narrow, there_after}
use Rattle.shop_rows.proofs.Counting.{put_nothing}
use Rattle.shop_store.proofs.checking.adder_for.Goals as goal

pub loop-row-preserved : goal.loop-row-preserved
loop-row-preserved c =
    let was = c.loop-row.invariant in
    record {
      rising = c.put.ensures.rising;
      none = λ column code. put_nothing column code c.no_sums.result c.reserve.new.self.items c.put.new.rows.items c.put.ensures.put (c.no_sums.ensures.none column) (ap (λ (rows : List Sums). sum_at column code rows) c.reserve.ensures.items ∙ was.none column code);
      there = λ code.
          there_after code c.no_sums.result c.reserve.new.self.items c.put.new.rows.items c.args.totals.now c.loop-row.row-index c.row-item.result c.put.ensures.put c.no_sums.ensures.code c.loop-row-test.true c.row-item.is
          (ap (has_sums code) c.reserve.ensures.items ∙ was.there code);
      narrow = more_narrow c.args.totals.now c.loop-row.row-index c.row-item.result c.loop-row-test.true c.row-item.is was.narrow c.in_range.ensures;
    }
