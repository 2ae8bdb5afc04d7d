use Rattle.std.proofs.Common.{◌∙◌}
use Rattle.shop_desk.proofs.TakenOrders.{order_more}
use Rattle.shop_desk.proofs.listing.order_rows.Goals as goal

pub loop-order-preserved : goal.loop-order-preserved
loop-order-preserved g c =
    let before = c.loop-order.invariant.keeps in
    let one = c.in_ok-row.ensures.keeps in
    record {
      keeps = record {
        clean_disk = λ clean_disk. before.clean_disk (one.clean_disk clean_disk);
        stays = λ clean_disk m held. one.stays clean_disk m (before.stays (one.clean_disk clean_disk) m held);
        crash = λ clean_disk m held left may. before.crash (one.clean_disk clean_disk) m held left (one.crash clean_disk m (before.stays (one.clean_disk clean_disk) m held) left may);
        failures = one.failures ∙ before.failures;
      };
      rows = λ clean_disk m held.
          order_more m c.args.orders.now c.loop-order.order-index c.order-item.result c.loop-order.rows c.push.new.self c.in_ok-row.row c.loop-order-test.true c.order-item.is
          (c.loop-order.invariant.rows (one.clean_disk clean_disk) m held)
          (c.in_ok-row.ensures.row clean_disk m (before.stays (one.clean_disk clean_disk) m held)) c.in_ok-push.ensures.ok;
    }
