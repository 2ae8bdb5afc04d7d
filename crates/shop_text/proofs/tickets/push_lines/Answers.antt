use Rattle.std.proofs.Common.{◌≡◌, ◌<◌, ◌++◌, List, ℕ, ◌∙◌, sym, subst}
use Rattle.std.specs.Prelude.{Option, MatchOption, string_bytes}
use Rattle.std.proofs.lemmas.Result.{err_from_is_err_and}
use Rattle.cut_tree.specs.Tree.{node_count}
use Rattle.shop_text.specs.Tickets.{line_of, lines_below}
use Rattle.shop_text.proofs.NodeLines.{line_added, line_is, none_below, stopped, within}
use Rattle.shop_text.proofs.tickets.push_lines.Goals as goal

pub loop-node-preserved : goal.loop-node-preserved
loop-node-preserved c =
    λ at found.
    let line = line_is c.args.kind at c.args.plan.now c.args.nodes.now c.loop-node.node-index c.node-item.result c.requires found c.loop-node-test.true c.node-item.is in
    line_added (line_of c.args.kind at c.args.plan.now) c.loop-node.node-index _ _ _ (c.loop-node.invariant at found)
    (subst (λ (o : Option (List ℕ)). MatchOption o ⊥ (λ l. string_bytes c.push_line.new.text ≡ string_bytes c.loop-node.text ++ l)) line c.in_ok-push_line.ensures)

pub returns-in_err-push_line : goal.returns-in_err-push_line
returns-in_err-push_line c =
    λ at found.
    let p = err_from_is_err_and c.from_residual.result c.from_residual.ensures.1 in
    let line = line_is c.args.kind at c.args.plan.now c.args.nodes.now c.loop-node.node-index c.node-item.result c.requires found c.loop-node-test.true c.node-item.is in
    let all = within c.args.plan.now c.args.nodes.now c.requires in
    let lt : c.loop-node.node-index < node_count c.args.plan.now.tree = subst (λ (n : ℕ). c.loop-node.node-index < n) all c.loop-node-test.true in
    rw (p.1, p.2)
    (stopped _ _ (lines_below (line_of c.args.kind at c.args.plan.now) (node_count c.args.plan.now.tree))
    (λ none. none_below (line_of c.args.kind at c.args.plan.now) c.loop-node.node-index (node_count c.args.plan.now.tree) lt (sym line ∙ none)) c.in_err-push_line.ensures)
