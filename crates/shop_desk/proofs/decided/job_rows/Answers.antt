use Rattle.shop_desk.proofs.decided.job_rows.Goals as goal

pub returns-clause-rows : goal.returns-clause-rows
returns-clause-rows g c =
    λ clean_disk m held.
    let before_totals = c.job_leaves.ensures.keeps.clean_disk clean_disk in
    let before_job = c.totals_for.ensures.keeps.clean_disk before_totals in
    let at_totals = c.found_job.ensures.keeps.stays before_job m held in
    let at_leaves = c.totals_for.ensures.keeps.stays before_totals m at_totals in
    let found = c.in_ok-job.ensures.rows before_job m held in
    record {
      of_job = found.of_job;
      of_part = found.of_part;
      of_material = found.of_material;
      of_totals = c.in_ok-totals.ensures.row before_totals m at_totals;
      demands = c.in_ok-leaves.ensures.found clean_disk m at_leaves;
    }
