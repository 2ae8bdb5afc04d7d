use Rattle.std.proofs.Common.{ap}
use Rattle.shop_records.specs.declared.messages.Reply.TheVariants.{Rack}
use Rattle.shop_records.specs.Content.{parts_of}
use Rattle.shop_desk.proofs.TakenParts.{rack_taken}
use Rattle.shop_desk.proofs.asking.known_rack.Goals as goal

pub returns-in-Ok-true-clause-answer : goal.returns-in-Ok-true-clause-answer
returns-in-Ok-true-clause-answer g c =
    λ clean_disk m held n s.
    ap (Rack c.args.material)
    (rack_taken (parts_of m c.args.material) _ c.in-Ok-true.field-0 _ c.visit_parts.new.visitor c.in-Ok-true.field-0-test (λ what it. it clean_disk m held) c.in-Ok-true.ensures.visit c.new.ensures)
