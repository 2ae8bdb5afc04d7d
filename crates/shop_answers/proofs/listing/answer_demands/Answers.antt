use Rattle.std.proofs.Common.{map, ap, ◌∙◌}
use Rattle.shop_records.specs.declared.messages.Reply.TheVariants.{Demands}
use Rattle.shop_records.specs.Lists.{demand_row}
use Rattle.shop_answers.specs.Listing.{first_reported}
use Rattle.shop_answers.proofs.ListingReply.{first_listed, more_listed}
use Rattle.shop_answers.proofs.listing.answer_demands.Goals as goal

pub returns-clause-answer : goal.returns-clause-answer
returns-clause-answer c = λ m all is reported.
    ap (λ rows. Demands rows c.are_more.result) (reported ∙ ap (map (demand_row m)) (first_listed c.args.rows.now all is))
    ∙ ap (Demands (map (demand_row m) (first_reported all))) (c.are_more.ensures ∙ more_listed c.args.rows.now all is)
