use Rattle.shop_records.specs.declared.records.Demand.{Demand}
use Rattle.shop_answers.proofs.OrdersReply.{sum_more}
use Rattle.shop_answers.proofs.listing.line_sums.Goals as goal

pub loop-line-preserved : goal.loop-line-preserved
loop-line-preserved c =
    let before = c.loop-line.invariant in
    let more = c.with_line-sums.ensures in
    record {
      made = sum_more (λ (d : Demand). d.made) c.args.lines.now c.loop-line.line-index c.line-item.result c.loop-line.sums.made c.with_line-sums.result.made c.loop-line-test.true c.line-item.is more.place more.made before.made;
      reserved = sum_more (λ (d : Demand). d.reserved) c.args.lines.now c.loop-line.line-index c.line-item.result c.loop-line.sums.reserved c.with_line-sums.result.reserved c.loop-line-test.true c.line-item.is more.place more.reserved before.reserved;
      wanted = sum_more (λ (d : Demand). d.wanted) c.args.lines.now c.loop-line.line-index c.line-item.result c.loop-line.sums.wanted c.with_line-sums.result.wanted c.loop-line-test.true c.line-item.is more.place more.wanted before.wanted;
    }
