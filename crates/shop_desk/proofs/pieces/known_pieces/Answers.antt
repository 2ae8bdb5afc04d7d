use Rattle.std.proofs.Common.{ap, sym, ◌∙◌}
use Rattle.std.specs.Prelude.{filter_map}
use Rattle.shop_records.specs.Lists.{piece_row, pieces_after}
use Rattle.shop_answers.specs.Listing.{first_reported}
use Rattle.shop_desk.proofs.pieces.known_pieces.Goals as goal

pub returns-in-Ok-clause-answer : goal.returns-in-Ok-clause-answer
returns-in-Ok-clause-answer g c =
    λ clean_disk m held n s.
    let found = c.in-Ok.ensures.pieces clean_disk m held in
    c.answer_pieces.ensures.answer m (pieces_after m c.args.of c.args.after) (c.as_slice.ensures ∙ found.0)
    (found.1 ∙ ap (λ rows. filter_map (piece_row m) (first_reported rows)) (sym c.as_slice.ensures))
