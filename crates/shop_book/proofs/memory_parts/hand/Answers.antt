use Rattle.std.proofs.Common.{Option, sym, subst}
use Rattle.std.specs.Option.{option_to_list}
use Rattle.shop_records.specs.declared.records.Part.{Part}
use Rattle.shop_records.specs.Visits.{HasSeen}
use Rattle.shop_book.proofs.Handed.{one_seen}
use Rattle.shop_book.proofs.memory_parts.hand.Goals as goal

pub returns-in-Some : goal.returns-in-Some
returns-in-Some g c =
    subst (λ (found : Option Part). HasSeen g.V.PartVisitor.looks (option_to_list found) c.part.result c.args.visitor.now c.part.new.self) (sym c.in-Some.is)
    (one_seen g.V.PartVisitor.looks c.in-Some.part c.part.result c.args.visitor.now c.part.new.self c.part.ensures)
