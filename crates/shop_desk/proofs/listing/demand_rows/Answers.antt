use Rattle.std.proofs.Common.{◌∙◌}
use Rattle.shop_desk.proofs.TakenDemands.{demand_more}
use Rattle.shop_desk.proofs.listing.demand_rows.Goals as goal

pub loop-demand-preserved : goal.loop-demand-preserved
loop-demand-preserved g c =
    let before = c.loop-demand.invariant.keeps in
    let one = c.in_ok-row.ensures.keeps in
    record {
      keeps = record {
        clean_disk = λ clean_disk. before.clean_disk (one.clean_disk clean_disk);
        stays = λ clean_disk m held. one.stays clean_disk m (before.stays (one.clean_disk clean_disk) m held);
        crash = λ clean_disk m held left may. before.crash (one.clean_disk clean_disk) m held left (one.crash clean_disk m (before.stays (one.clean_disk clean_disk) m held) left may);
        failures = one.failures ∙ before.failures;
      };
      rows = λ clean_disk m held.
          demand_more m c.args.demands.now c.loop-demand.demand-index c.demand-item.result c.loop-demand.rows c.push.new.self c.in_ok-row.row c.loop-demand-test.true c.demand-item.is
          (c.loop-demand.invariant.rows (one.clean_disk clean_disk) m held)
          (c.in_ok-row.ensures.row clean_disk m (before.stays (one.clean_disk clean_disk) m held)) c.in_ok-push.ensures.ok;
    }
