use Rattle.std.proofs.Common.{◌∙◌}
use Rattle.shop_desk.proofs.TakenJobs.{row_more}
use Rattle.shop_desk.proofs.listing.job_rows.Goals as goal

pub loop-number-preserved : goal.loop-number-preserved
loop-number-preserved g c =
    let before = c.loop-number.invariant.keeps in
    let one = c.in_ok-found.ensures.keeps in
    record {
      keeps = record {
        clean_disk = λ clean_disk. before.clean_disk (one.clean_disk clean_disk);
        stays = λ clean_disk m held. one.stays clean_disk m (before.stays (one.clean_disk clean_disk) m held);
        crash = λ clean_disk m held left may. before.crash (one.clean_disk clean_disk) m held left (one.crash clean_disk m (before.stays (one.clean_disk clean_disk) m held) left may);
        failures = one.failures ∙ before.failures;
      };
      rows = λ clean_disk m held.
          c.in_ok-push_job.ensures
          ∙ row_more m c.args.numbers.now c.loop-number.number-index c.loop-number.rows c.in_ok-found.found c.loop-number-test.true
          (c.loop-number.invariant.rows (one.clean_disk clean_disk) m held)
          (c.in_ok-found.ensures.found clean_disk m (before.stays (one.clean_disk clean_disk) m held));
    }
