use Rattle.std.proofs.Common.{ap, subst, ◌∙◌}
use Rattle.shop_records.specs.declared.messages.Reply.TheVariants.{Orders}
use Rattle.shop_answers.specs.Listing.{AreOrderRows}
use Rattle.shop_answers.proofs.ListingReply.{first_listed, more_listed}
use Rattle.shop_answers.proofs.listing.answer_orders.Goals as goal

pub returns-clause-answer : goal.returns-clause-answer
returns-clause-answer c = λ m all is reported. (
  c.args.orders,
  subst (λ codes. AreOrderRows m codes c.args.orders) (first_listed c.args.codes.now all is) reported,
  ap (λ more. Orders more c.args.orders) (c.are_more.ensures ∙ more_listed c.args.codes.now all is),
)
