use Rattle.std.proofs.Common.{ap, ◌∙◌}
use Rattle.shop_answers.proofs.ListingReply.{reported_by}
use Rattle.shop_answers.proofs.listing.first_reported.Goals as goal

pub returns : goal.returns
returns g c = ap (λ b. b.now) c.unwrap_or.ensures ∙ reported_by c.args.rows c.get.result c.get.ensures.lookup.0
