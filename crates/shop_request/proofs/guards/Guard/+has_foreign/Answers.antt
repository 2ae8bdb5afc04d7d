use Rattle.std.proofs.Common.{◌∙◌, ◌||◌, ap, sym}
use Rattle.std.specs.List.{list_any}
use Rattle.shop_request.specs.Guards.{is_foreign_as, mark_name}
use Rattle.shop_request.proofs.Guarding.{any_first}
use Rattle.shop_request.proofs.Named.{cons_at, unnamed_first, named_first}
use Rattle.shop_request.proofs.guards.Guard.+has_foreign.Goals as goal

pub returns-then-not-is_name : goal.returns-then-not-is_name
returns-then-not-is_name t c =
    let same = unnamed_first c.args.buf.now (mark_name c.args.mark) c.args.headers.now (cons_at _ c.args.headers.now c.in-len1-up.len_at_least) c.of.result.now c.of.ensures c.is_name.result (rw (← c.mark_name.ensures) c.is_name.ensures)
    c.if-not-is_name.true in
    c.has_foreign-others.ensures ∙ ap (list_any (is_foreign_as c.args.self.now c.args.mark)) (sym same)

pub returns-then-is_foreign : goal.returns-then-is_foreign
returns-then-is_foreign t c =
    let others = c.has_foreign-others.result in
    let all = named_first c.args.buf.now (mark_name c.args.mark) c.args.headers.now (cons_at _ c.args.headers.now c.in-len1-up.len_at_least) c.of.result.now c.of.ensures c.is_name.result (rw (← c.mark_name.ensures) c.is_name.ensures)
    c.if-not-is_name.false in
    let test = is_foreign_as c.args.self.now c.args.mark in
    c.if-is_foreign.true ∙ ap (λ x. x || others) (sym c.if-is_foreign.true)
    ∙ any_first test _ _ _ c.is_foreign.result others all (c.is_foreign.ensures ∙ ap test c.of-2.ensures) c.has_foreign-others.ensures

pub returns-else-is_foreign : goal.returns-else-is_foreign
returns-else-is_foreign t c =
    let others = c.has_foreign-others.result in
    let all = named_first c.args.buf.now (mark_name c.args.mark) c.args.headers.now (cons_at _ c.args.headers.now c.in-len1-up.len_at_least) c.of.result.now c.of.ensures c.is_name.result (rw (← c.mark_name.ensures) c.is_name.ensures)
    c.if-not-is_name.false in
    let test = is_foreign_as c.args.self.now c.args.mark in
    ap (λ x. x || others) (sym c.if-is_foreign.false)
    ∙ any_first test _ _ _ c.is_foreign.result others all (c.is_foreign.ensures ∙ ap test c.of-2.ensures) c.has_foreign-others.ensures
