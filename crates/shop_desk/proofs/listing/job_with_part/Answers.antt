use Rattle.std.proofs.Common.{◌∙◌}
use Rattle.shop_desk.proofs.TakenJobs.{with_part}
use Rattle.shop_desk.proofs.listing.job_with_part.Goals as goal

pub returns-clause-found : goal.returns-clause-found
returns-clause-found g c = λ clean_disk m held. c.both.ensures ∙ with_part m c.args.number c.in_ok-found.found (c.in_ok-found.ensures.rows clean_disk m held)
