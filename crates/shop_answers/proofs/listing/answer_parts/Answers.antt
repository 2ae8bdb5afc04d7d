use Rattle.std.proofs.Common.{ap, ◌∙◌}
use Rattle.shop_records.specs.declared.messages.Reply.TheVariants.{Parts}
use Rattle.shop_answers.specs.Listing.{first_reported}
use Rattle.shop_answers.proofs.ListingReply.{first_listed, more_listed}
use Rattle.shop_answers.proofs.listing.answer_parts.Goals as goal

pub returns-in-Ok-clause-answer : goal.returns-in-Ok-clause-answer
returns-in-Ok-clause-answer c = λ parts is _.
    ap (Parts c.args.material c.are_more.result) (c.in-Ok.ensures ∙ first_listed c.args.rows.now parts is)
    ∙ ap (λ more. Parts c.args.material more (first_reported parts)) (c.are_more.ensures ∙ more_listed c.args.rows.now parts is)
