use Rattle.std.proofs.Common.{Bool, Option, false, true, subst}
use Rattle.std.specs.Option.{option_to_list}
use Rattle.cut_measure.specs.Names.{Name, name_cmp}
use Rattle.shop_records.specs.declared.records.Part.{Part}
use Rattle.shop_records.specs.Visits.{HasSeen}
use Rattle.shop_rows.specs.Keys.{part_key}
use Rattle.shop_rows.specs.PartRows.{parts_in}
use Rattle.shop_rows.specs.Rows.{row_at}
use Rattle.shop_book.proofs.Handed.{handed, stopped, ended}
use Rattle.shop_book.proofs.memory_parts.visit.Goals as goal

pub returns-then-not-hand : goal.returns-then-not-hand
returns-then-not-hand g c =
    stopped g.V.PartVisitor.looks (λ (name : Name). row_at part_key name_cmp name (parts_in c.args.parts.now)) c.args.names.now c.loop-name.name-index c.args.visitor.now c.loop-name.visitor c.hand.new.visitor
    c.name-item.result c.loop-name-test.true c.name-item.is c.loop-name.invariant
    (subst (λ (found : Option Part). HasSeen g.V.PartVisitor.looks (option_to_list found) false c.loop-name.visitor c.hand.new.visitor) c.find.ensures
    (subst (λ (on : Bool). HasSeen g.V.PartVisitor.looks (option_to_list c.find.result) on c.loop-name.visitor c.hand.new.visitor) c.if-not-hand.true c.hand.ensures))

pub loop-name-preserved : goal.loop-name-preserved
loop-name-preserved g c =
    handed g.V.PartVisitor.looks (λ (name : Name). row_at part_key name_cmp name (parts_in c.args.parts.now)) c.args.names.now c.loop-name.name-index c.args.visitor.now c.loop-name.visitor c.hand.new.visitor
    c.name-item.result c.loop-name-test.true c.name-item.is c.loop-name.invariant
    (subst (λ (found : Option Part). HasSeen g.V.PartVisitor.looks (option_to_list found) true c.loop-name.visitor c.hand.new.visitor) c.find.ensures
    (subst (λ (on : Bool). HasSeen g.V.PartVisitor.looks (option_to_list c.find.result) on c.loop-name.visitor c.hand.new.visitor) c.if-not-hand.false c.hand.ensures))

pub returns : goal.returns
returns g c =
    ended g.V.PartVisitor.looks (λ (name : Name). row_at part_key name_cmp name (parts_in c.args.parts.now)) c.args.names.now c.loop-name.name-index c.args.visitor.now c.loop-name.visitor
    c.loop-name-test.false c.loop-name.invariant
