use Rattle.std.proofs.Common.{ap, ◌∙◌}
use Rattle.std.specs.Prelude.{filter_map}
use Rattle.shop_records.specs.declared.messages.Reply.TheVariants.{Pieces}
use Rattle.shop_records.specs.Lists.{piece_row}
use Rattle.shop_answers.specs.Listing.{first_reported}
use Rattle.shop_answers.proofs.ListingReply.{first_listed, more_listed}
use Rattle.shop_answers.proofs.listing.answer_pieces.Goals as goal

pub returns-clause-answer : goal.returns-clause-answer
returns-clause-answer c = λ m all is reported.
    ap (Pieces c.are_more.result) (reported ∙ ap (filter_map (piece_row m)) (first_listed c.args.rows.now all is))
    ∙ ap (λ more. Pieces more (filter_map (piece_row m) (first_reported all))) (c.are_more.ensures ∙ more_listed c.args.rows.now all is)
