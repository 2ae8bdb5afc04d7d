use Rattle.std.proofs.Common.{sym, subst, ◌∙◌}
use Rattle.shop_answers.specs.Listing.{IsLinesAnswer}
use Rattle.shop_desk.proofs.listing.lines.Goals as goal

pub returns-in-Ok-true-clause-answer : goal.returns-in-Ok-true-clause-answer
returns-in-Ok-true-clause-answer g c =
    λ clean_disk m held n s.
    let before = c.known_lines.ensures.keeps.clean_disk clean_disk in
    subst (λ there. IsLinesAnswer m c.args.order there c.known_lines.result) (sym c.in-Ok-true.field-0-test ∙ c.in-Ok-true.ensures.row before m held)
    (c.known_lines.ensures.answer clean_disk m (c.order.ensures.keeps.stays before m held) n s)
