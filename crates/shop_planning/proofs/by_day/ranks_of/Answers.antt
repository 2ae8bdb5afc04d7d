use Rattle.std.proofs.Common.{◌∙◌}
use Rattle.shop_planning.proofs.DayRanks.{rank_more}
use Rattle.shop_planning.proofs.by_day.ranks_of.Goals as goal

pub loop-row-preserved : goal.loop-row-preserved
loop-row-preserved g c =
    let before = c.loop-row.invariant.keeps in
    let one = c.in_ok-day.ensures.keeps in
    record {
      keeps = record {
        clean_disk = λ clean_disk. before.clean_disk (one.clean_disk clean_disk);
        stays = λ clean_disk m held. one.stays clean_disk m (before.stays (one.clean_disk clean_disk) m held);
        crash = λ clean_disk m held left may. before.crash (one.clean_disk clean_disk) m held left (one.crash clean_disk m (before.stays (one.clean_disk clean_disk) m held) left may);
        failures = one.failures ∙ before.failures;
      };
      ranks = λ clean_disk m held.
          rank_more m c.args.rows.now c.loop-row.row-index c.row-item.result c.loop-row.ranks.items c.push_rank.new.ranks.items c.in_ok-day.day c.make_rank.result c.loop-row-test.true c.row-item.is
          (c.loop-row.invariant.ranks (one.clean_disk clean_disk) m held) c.in_ok-push_rank.ensures c.make_rank.ensures.value c.make_rank.ensures.ranges
          (c.in_ok-day.ensures.day clean_disk m (before.stays (one.clean_disk clean_disk) m held));
    }
