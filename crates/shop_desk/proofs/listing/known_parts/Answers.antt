use Rattle.std.proofs.Common.{◌∙◌}
use Rattle.shop_records.specs.Lists.{parts_after}
use Rattle.shop_desk.proofs.listing.known_parts.Goals as goal

pub returns-in-Ok-clause-answer : goal.returns-in-Ok-clause-answer
returns-in-Ok-clause-answer g c = λ clean_disk m held n s.
    c.answer_parts.ensures.answer (parts_after m c.args.material c.args.after) (c.as_slice.ensures ∙ c.in-Ok.ensures.rows clean_disk m held) n
