use Rattle.std.proofs.Common.{take, ap, ◌∙◌}
use Rattle.shop_records.specs.Content.{Content}
use Rattle.shop_records.specs.Lists.{pieces_after}
use Rattle.shop_desk.proofs.pieces.first_pieces.Goals as goal

pub returns-clause-rows : goal.returns-clause-rows
returns-clause-rows g c =
    λ clean_disk m held. c.in_ok-rows.ensures ∙ ap (λ (content : Content). take c.args.most (pieces_after content c.args.of c.args.after)) (c.rows.ensures clean_disk m held)
