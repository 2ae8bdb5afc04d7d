use Rattle.std.proofs.Common.{ap, sym, ◌∙◌}
use Rattle.std.specs.Prelude.{map}
use Rattle.shop_records.specs.Lists.{demand_row, open_demands}
use Rattle.shop_answers.specs.Listing.{first_reported}
use Rattle.shop_desk.proofs.listing.known_demands.Goals as goal

pub returns-in-Ok-clause-answer : goal.returns-in-Ok-clause-answer
returns-in-Ok-clause-answer g c =
    λ clean_disk m held n s.
    let found = c.in-Ok.ensures.demands clean_disk m held in
    c.answer_demands.ensures.answer m (open_demands m c.args.after c.args.material) (c.as_slice.ensures ∙ found.0)
    (found.1 ∙ ap (λ rows. map (demand_row m) (first_reported rows)) (sym c.as_slice.ensures))
