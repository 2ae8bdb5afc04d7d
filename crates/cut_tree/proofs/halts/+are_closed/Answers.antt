use Rattle.std.proofs.Common.{◌∙◌, ◌+◌, sym, ap}
use Rattle.cut_tree.specs.Nodes.{tree_of}
use Rattle.cut_tree.proofs.Closed.{untried, made_trim, made_cut, not_first}
use Rattle.cut_tree.proofs.halts.+are_closed.Goals as goal

pub returns-then-is_among : goal.returns-then-is_among
returns-then-is_among t c =
    rw c.in-Trim.is
    (made_trim c.args.cuts.now c.args.lost c.in-Trim.field-0 c.in-Trim.field-1 (tree_of c.in-Trim.first.value) c.args.number c.are_closed.result
    (sym c.is_among.ensures ∙ c.if-is_among.true) (rw c.deref.ensures at c.are_closed.ensures))

pub returns-else-is_among : goal.returns-else-is_among
returns-else-is_among t c =
    untried c.args.cuts.now c.args.lost (tree_of c.args.node.now) c.args.number _ c.none_tried.result
    (sym c.is_among.ensures ∙ c.if-is_among.false) (ap (λ n. c.args.number + n) c.count_cuts.ensures) c.none_tried.ensures

pub returns-then-are_closed : goal.returns-then-are_closed
returns-then-are_closed t c =
    let first = rw c.deref-then-is_among-2-2.ensures at c.are_closed-then-is_among-2.ensures in
    let second = rw (c.deref-then-are_closed.ensures, c.count_cuts-then-is_among-2.ensures, c.deref-then-is_among-2.ensures) at c.are_closed-then-are_closed.ensures in
    rw c.in-Cut.is
    (made_cut c.args.cuts.now c.args.lost c.in-Cut.field-0 c.in-Cut.field-1 (tree_of c.in-Cut.first.value) (tree_of c.in-Cut.second.value) c.args.number
    c.are_closed-then-are_closed.result (sym c.is_among-in-Cut.ensures ∙ c.if-is_among-2.true) (first.0 c.if-are_closed.true) second)

pub returns-else-are_closed : goal.returns-else-are_closed
returns-else-are_closed t c =
    let first = rw c.deref-then-is_among-2-2.ensures at c.are_closed-then-is_among-2.ensures in
    rw c.in-Cut.is
    (not_first c.args.cuts.now c.args.lost c.in-Cut.field-0 c.in-Cut.field-1 (tree_of c.in-Cut.first.value) (tree_of c.in-Cut.second.value) c.args.number
    c.are_closed-then-is_among-2.result c.if-are_closed.false first)

pub returns-else-is_among-2 : goal.returns-else-is_among-2
returns-else-is_among-2 t c =
    untried c.args.cuts.now c.args.lost (tree_of c.args.node.now) c.args.number _ c.none_tried-else-is_among-2.result
    (sym c.is_among-in-Cut.ensures ∙ c.if-is_among-2.false) (ap (λ n. c.args.number + n) c.count_cuts.ensures) c.none_tried-else-is_among-2.ensures
