use Rattle.std.proofs.Common.{◌≡◌, take, ap, ◌+◌, ◌∙◌}
use Rattle.std.specs.Prelude.{filter_map}
use Rattle.shop_answers.specs.declared.listing.TheConstants.{MAX_LISTED}
use Rattle.shop_records.specs.Lists.{job_numbers, waiting_jobs}
use Rattle.shop_answers.specs.Listing.{job_row_at}
use Rattle.shop_answers.proofs.ListingReply.{first_listed, more_listed}
use Rattle.shop_desk.proofs.listing.first_jobs.Goals as goal

pub returns-clause-jobs : goal.returns-clause-jobs
returns-clause-jobs g c = λ clean_disk m held.
    let all = job_numbers (waiting_jobs m c.args.after) in
    let before = c.in_ok-rows.ensures.keeps.clean_disk clean_disk in
    let is : c.in_ok-numbers.numbers ≡ take (MAX_LISTED + 1) all = c.in_ok-numbers.ensures.rows before m held in (
      c.in_ok-rows.ensures.rows clean_disk m (c.in_ok-numbers.ensures.keeps.stays before m held)
          ∙ ap (filter_map (job_row_at m)) (c.first_reported.ensures ∙ first_listed c.as_slice.result.now all (c.as_slice.ensures ∙ is)),
      c.are_more.ensures ∙ more_listed c.as_slice-2.result.now all (c.as_slice-2.ensures ∙ is),
    )
