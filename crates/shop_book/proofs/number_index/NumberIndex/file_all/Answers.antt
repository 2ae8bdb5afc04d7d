use Rattle.std.proofs.Common.{take}
use Rattle.shop_book.proofs.Filed.{filed_more, filed_stay, stays_then}
use Rattle.shop_book.proofs.number_index.NumberIndex.file_all.Goals as goal

pub loop-part-preserved : goal.loop-part-preserved
loop-part-preserved c =
    let parts = c.args.parts.now in
    let at = c.loop-part.part-index in
    let stays = c.file.ensures.stays in
    record {
      filed =
          filed_more c.file.new.self parts at c.part-item.result c.loop-part-test.true c.part-item.is (filed_stay c.loop-part.self c.file.new.self (take at parts) stays c.loop-part.invariant.filed)
          c.in_ok-file.ensures.filed;
      stays = stays_then _ _ _ c.loop-part.invariant.stays stays;
    }
