use Rattle.std.proofs.Common.{◌∙◌}
use Rattle.shop_desk.proofs.TakenSteps.{step_more}
use Rattle.shop_desk.proofs.nodes.step_rows.Goals as goal

pub loop-step-preserved : goal.loop-step-preserved
loop-step-preserved g c =
    let before = c.loop-step.invariant.keeps in
    let one = c.in_ok-row.ensures.keeps in
    record {
      keeps = record {
        clean_disk = λ clean_disk. before.clean_disk (one.clean_disk clean_disk);
        stays = λ clean_disk m held. one.stays clean_disk m (before.stays (one.clean_disk clean_disk) m held);
        crash = λ clean_disk m held left may. before.crash (one.clean_disk clean_disk) m held left (one.crash clean_disk m (before.stays (one.clean_disk clean_disk) m held) left may);
        failures = one.failures ∙ before.failures;
      };
      rows = λ clean_disk m held.
          step_more m c.args.job c.args.steps.now c.loop-step.step-index _ c.loop-step.rows c.push.new.self c.in_ok-row.row c.loop-step-test.true
          (c.loop-step.invariant.rows (one.clean_disk clean_disk) m held)
          (c.in_ok-row.ensures.row clean_disk m (before.stays (one.clean_disk clean_disk) m held)) c.in_ok-push.ensures.ok;
    }
