use Rattle.std.proofs.Common.{[], arith}
use Rattle.sqlite.specs.Held.{state}
use Rattle.sqlite.specs.State.{HasCleanDisk}
use Rattle.shop_tables.proofs.EarlierParts.{not_invalid_earlier, visited_earlier}
use Rattle.shop_tables.proofs.SecondParts.{not_invalid_second, visited_second}
use Rattle.std.specs.FinMap.{values}
use Rattle.shop_tables.proofs.Listed.{all_there, first_there, none_stranger, not_invalid, visited}
use Rattle.shop_tables.proofs.ListTexts.{all_parts_text, all_parts_selects}
use Rattle.shop_tables.proofs.visiting.visit_all_parts.Goals as goal

pub visit_rows-requires : goal.visit_rows-requires
visit_rows-requires g c = all_parts_selects

pub returns-clause-visit : goal.returns-clause-visit
returns-clause-visit g c =
    visited g.S.Store all_parts_text [] (λ b. values b.content.parts) (λ s t b has. all_there s b has t) (λ s b has. first_there s b has) c.args.conn.now c.visit_rows.new.conn g.V.PartVisitor.looks c.args.visitor.now c.visit_rows.new.visitor c.visit_rows.result
    c.visit_rows.ensures.borrowed

pub returns-clause-invalid : goal.returns-clause-invalid
returns-clause-invalid g c =
    not_invalid g.S.Store all_parts_text [] (λ b. values b.content.parts) (λ s t b has. all_there s b has t) (λ s b has. first_there s b has) c.args.conn.now c.visit_rows.new.conn g.V.PartVisitor.looks c.args.visitor.now c.visit_rows.new.visitor c.visit_rows.result
    c.visit_rows.ensures.borrowed (λ s b has. none_stranger s b has)

pub returns-clause-earlier : goal.returns-clause-earlier
returns-clause-earlier g c =
    let before : HasCleanDisk (state g.S.Store c.visit_rows.new.conn) → HasCleanDisk (state g.S.Store c.args.conn.now) = λ clean. omega (arith, c.visit_rows.ensures.leaves.survives.clean) in
    visited_earlier g.S.Store c.args.conn.now c.visit_rows.new.conn before g.V.PartVisitor.looks c.args.visitor.now c.visit_rows.new.visitor c.visit_rows.result c.visit_rows.ensures.borrowed

pub returns-clause-earlier_invalid : goal.returns-clause-earlier_invalid
returns-clause-earlier_invalid g c =
    let before : HasCleanDisk (state g.S.Store c.visit_rows.new.conn) → HasCleanDisk (state g.S.Store c.args.conn.now) = λ clean. omega (arith, c.visit_rows.ensures.leaves.survives.clean) in
    not_invalid_earlier g.S.Store c.args.conn.now c.visit_rows.new.conn before g.V.PartVisitor.looks c.args.visitor.now c.visit_rows.new.visitor c.visit_rows.result c.visit_rows.ensures.borrowed

pub returns-clause-second : goal.returns-clause-second
returns-clause-second g c =
    let before : HasCleanDisk (state g.S.Store c.visit_rows.new.conn) → HasCleanDisk (state g.S.Store c.args.conn.now) = λ clean. omega (arith, c.visit_rows.ensures.leaves.survives.clean) in
    visited_second g.S.Store c.args.conn.now c.visit_rows.new.conn before g.V.PartVisitor.looks c.args.visitor.now c.visit_rows.new.visitor c.visit_rows.result c.visit_rows.ensures.borrowed

pub returns-clause-second_invalid : goal.returns-clause-second_invalid
returns-clause-second_invalid g c =
    let before : HasCleanDisk (state g.S.Store c.visit_rows.new.conn) → HasCleanDisk (state g.S.Store c.args.conn.now) = λ clean. omega (arith, c.visit_rows.ensures.leaves.survives.clean) in
    not_invalid_second g.S.Store c.args.conn.now c.visit_rows.new.conn before g.V.PartVisitor.looks c.args.visitor.now c.visit_rows.new.visitor c.visit_rows.result c.visit_rows.ensures.borrowed
